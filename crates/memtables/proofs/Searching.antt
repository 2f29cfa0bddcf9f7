-- A search in the current table and then in the sealed one.
use Rattle.std.proofs.Common.{◌⊎◌, ◌++◌, ◌∷◌, [], ℕ, List, Option, Some, None, Result, Ok, Err, IfOk, inl, inr, arith}
use Rattle.ikey.specs.declared.entry.Entry.{Entry}
use Rattle.ikey.specs.Sources.{BehindLaw, FrontLaw, IsAnswer, IsNewerThan}
use Rattle.ikey.specs.Views.{Among, IsUnseen, IsValueAt}

pub among_split : (xs ys : List Entry) (e : Entry) → Among (xs ++ ys) e → Among xs e ⊎ Among ys e
among_split [] ys e i = inr i
among_split (x ∷ xs) ys e (inl same) = inl (inl same)
among_split (x ∷ xs) ys e (inr i) = elim (among_split xs ys e i) [ inl j ↦ inl (inr j) | inr j ↦ inr j ]

among_front : (xs ys : List Entry) (e : Entry) → Among xs e → Among (xs ++ ys) e
among_front [] ys e i = absurd i
among_front (x ∷ xs) ys e (inl same) = inl same
among_front (x ∷ xs) ys e (inr i) = inr (among_front xs ys e i)

among_back : (xs ys : List Entry) (e : Entry) → Among ys e → Among (xs ++ ys) e
among_back [] ys e i = i
among_back (x ∷ xs) ys e i = inr (among_back xs ys e i)

pub found_in_front : FrontLaw → (front back : List Entry) (sequence : ℕ) (key : List ℕ) (value : Option (List ℕ)) → IsNewerThan front back → IsAnswer front sequence key (Some value) → IsAnswer (front ++ back) sequence key (Some value)
found_in_front law front back sequence key value newer h = (h.0, law front back sequence h.0 newer h.1, h.2, h.3)

-- what isn't seen in both isn't seen
pub found_in_none : (front back : List Entry) (sequence : ℕ) (key : List ℕ) → IsUnseen front sequence key → IsUnseen back sequence key → IsUnseen (front ++ back) sequence key
found_in_none front back sequence key one two entry i same = elim (among_split front back entry i) [ inl j ↦ one entry j same | inr j ↦ two entry j same ]

pub found_alone : (front : List Entry) (sequence : ℕ) (key : List ℕ) → IsUnseen front sequence key → IsUnseen (front ++ []) sequence key
found_alone front sequence key one = found_in_none front [] sequence key one (λ entry i same. absurd i)

answer_of : (front back : List Entry) (sequence : ℕ) (key : List ℕ) (value : Option (List ℕ)) → IsAnswer back sequence key (Some value) → IsValueAt (front ++ back) sequence key value → IsAnswer (front ++ back) sequence key (Some value)
answer_of front back sequence key value h (inl is) = is
answer_of front back sequence key value h (inr is) = (let above = is.0 h.0 (among_back front back h.0 h.1.member) h.2 in let seen = h.1.seen in absurd (omega (arith, above, seen)))

pub found_behind : BehindLaw → (front back : List Entry) (sequence : ℕ) (key : List ℕ) (answer : Option (Option (List ℕ))) → IsUnseen front sequence key → IsAnswer back sequence key answer → IsAnswer (front ++ back) sequence key answer
found_behind law front back sequence key None unseen h = found_in_none front back sequence key unseen h
found_behind law front back sequence key (Some value) unseen h = answer_of front back sequence key value h (law front back sequence key value unseen (inl h))

either_way : (xs ys : List Entry) (e : Entry) → Among (xs ++ ys) e → Among (ys ++ xs) e
either_way xs ys e i = elim (among_split xs ys e i) [ inl j ↦ among_back ys xs e j | inr j ↦ among_front ys xs e j ]

-- the same of both, in whatever order
pub found_either_way : (xs ys : List Entry) (sequence : ℕ) (key : List ℕ) (answer : Option (Option (List ℕ))) → IsAnswer (xs ++ ys) sequence key answer → IsAnswer (ys ++ xs) sequence key answer
found_either_way xs ys sequence key None unseen = λ entry i same. unseen entry (either_way ys xs entry i) same
found_either_way xs ys sequence key (Some value) h = (
  h.0,
  record { member = either_way xs ys h.0 h.1.member; seen = h.1.seen; greatest = λ other i same le. h.1.greatest other (either_way ys xs other i) same le },
  h.2,
  h.3,
)

pub if_ok_more : {T E : Type 0} (result : Result T E) (P Q : T → Type 0) → ((x : T) → P x → Q x) → IfOk result P → IfOk result Q
if_ok_more (Ok x) P Q f h = f x h
if_ok_more (Err e) P Q f h = tt
