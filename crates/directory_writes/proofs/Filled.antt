-- The entries of a memtable, added to a table file one after the other.
use Rattle.std.proofs.Common.{◌≡◌, ◌⊎◌, ◌+◌, ◌-◌, ◌<◌, ◌≤◌, ◌^◌, ℕ, zero, suc, Bool, cond, Option, Some, None, IsTrue, IsSome, List, [], ◌∷◌, ◌++◌, length, inl, inr, refl, sym, ap, subst, ◌∙◌, arith, append_assoc}
use Rattle.std.proofs.lemmas.List.{append-nil}
use Rattle.std.specs.Prelude.{IfSome}
use Rattle.std.specs.List.{AllByRecursion, slice_get}
use Rattle.std.specs.declared.cmp.Ordering.{Ordering}
use Rattle.std.specs.declared.cmp.Ordering.TheVariants.{Less}
use Rattle.block.specs.Written.{last_key, last_key_from}
use Rattle.ikey.specs.declared.entry.Entry.{Entry}
use Rattle.ikey.specs.Below.{IsBelowInternal}
use Rattle.ikey.specs.Entries.{Pair, internal_key_of, value_kept}
use Rattle.ikey.specs.Keys.{key_cmp}
use Rattle.ikey.specs.Views.{Among}
use Rattle.memtable.specs.Contents.{entry_at}
use Rattle.memtable.specs.Order.{Placed, ordered, RisesInternally}
use Rattle.memtable.specs.Places.{IsPlace, Stands, first_of}
use Rattle.memtable.proofs.Orders.{all-back, length-ordered, stands-insert}
use Rattle.recover.specs.Tables.{internal_key}
use Rattle.std.specs.Cmp.{tied_itself}
use Rattle.std.specs.Cmp.Lexicographic.{nat_list_cmp_total}
use Rattle.std.specs.Ordering.{is_eq}
use Rattle.store.specs.Files.{Facts, Synced, with_synced}
use Rattle.table.specs.Building.{Building, Builds, MayFollow, last_added}
use Rattle.table.specs.Writing.{Writes, NeedsLongBlock}
use Rattle.table.proofs.Storing.{writes_none, writes_then}
use Rattle.compact.specs.Rooms.{AreLarge}
use Rattle.compact.proofs.Sizes.{long_block}
use Rattle.directory_writes.specs.internal.Level0.{HaveSequences, pair_of, pairs_of}
use Rattle.directory_writes.proofs.Made.{is_key}
use Rattle.directory_writes.proofs.Ranks.{each_placed}
use Rattle.directory_writes.proofs.Sizes.{front_room}

-- ---- the store

pub writes_by : (a b d : Facts) (name x y : List ℕ) → x ≡ name → y ≡ name → Writes a b x → Writes b d y → Writes a d name
writes_by a b d name x y p q w v = writes_then a b d name (subst (Writes a b) p w) (subst (Writes b d) q v)

-- ---- lists

pub some_pairs : (cmp : List ℕ → List ℕ → Ordering) (inserts : List Entry) → 0 < length inserts → 0 < length (pairs_of (ordered cmp inserts))
some_pairs cmp inserts some = by (ordered cmp inserts) (omega (arith, some, length-ordered cmp inserts))
  where
    by : (placed : List Placed) → 0 < length placed → 0 < length (pairs_of placed)
    by [] none = absurd (omega (arith, none))
    by (one ∷ placed) more = omega arith

pub among_at : (entries : List Entry) (n : ℕ) (entry : Entry) → slice_get entries n ≡ Some entry → Among entries entry
among_at [] n entry e = (let t : None ≡ Some entry = e in absurd cc)
among_at (first ∷ entries) zero entry e = (let t : Some first ≡ Some entry = e in inl cc)
among_at (first ∷ entries) (suc n) entry e = inr (among_at entries n entry e)

pairs-push : (front : List Placed) (one : Placed) → pairs_of (front ++ one ∷ []) ≡ pairs_of front ++ pair_of one.entry ∷ []
pairs-push [] one = refl
pairs-push (x ∷ front) one = ap (λ (ps : List Pair). pair_of x.entry ∷ ps) (pairs-push front one)

last-push : (previous : Option (List ℕ)) (front : List Placed) (one : Placed) → last_key_from previous (pairs_of (front ++ one ∷ [])) ≡ Some (internal_key one.entry)
last-push previous [] one = refl
last-push previous (x ∷ front) one = last-push (Some (internal_key x.entry)) front one

some-from : (key : List ℕ) (placed : List Placed) → IsSome (last_key_from (Some key) (pairs_of placed))
some-from key [] = refl
some-from key (one ∷ placed) = some-from (internal_key one.entry) placed

some_last : (placed : List Placed) → 0 < length placed → IsSome (last_key (pairs_of placed))
some_last [] some = absurd (omega (arith, some))
some_last (one ∷ placed) some = some-from (internal_key one.entry) placed

none_first : (placed : List Placed) → first_of placed ≡ None → placed ≡ []
none_first [] e = refl
none_first (one ∷ placed) e = (let t : Some one.node ≡ None = e in absurd cc)

none_left : (placed : List Placed) → length placed ≡ 0 → placed ≡ []
none_left [] e = refl
none_left (one ∷ placed) e = absurd (omega (arith, e))

pub same_pair : (key value : List ℕ) (entry : Entry) → key ≡ internal_key entry → value ≡ value_kept entry.value → record { key = key; value = value } ≡ pair_of entry
same_pair key value entry p q = λ i. record { key = p i; value = q i }

pub synced_now : (old : Synced) (name : List ℕ) (content : Option (List ℕ)) → with_synced old name content name ≡ content
synced_now old name content = ap (λ (b : Bool). cond b content (old name)) (ap is_eq (tied_itself nat_list_cmp_total name))

module _ (cmp : List ℕ → List ℕ → Ordering) (inserts : List Entry) where
  -- ---- an entry after those in front

  below_last : (front : List Placed) (one : Placed) (later : List Placed) (previous : Option (List ℕ))
      → ((last : List ℕ) → previous ≡ Some last → IsBelowInternal cmp last (internal_key one.entry))
      → AllByRecursion (λ (x : Placed). x.entry.sequence < 2 ^ 56) (front ++ one ∷ later) → RisesInternally cmp (front ++ one ∷ later)
      → (last : List ℕ) → last_key_from previous (pairs_of front) ≡ Some last → IsBelowInternal cmp last (internal_key one.entry)
  below_last [] one later previous below fits rises last e = below last e
  below_last (x ∷ front) one later previous below fits rises last e =
      let here = all-back (λ (y : Placed). key_cmp cmp (internal_key_of x.entry) (internal_key_of y.entry) ≡ Less) front (one ∷ later) rises.0 in
      let one_fits = all-back (λ (y : Placed). y.entry.sequence < 2 ^ 56) front (one ∷ later) fits.1 in
      let next : IsBelowInternal cmp (internal_key x.entry) (internal_key one.entry) =
      (internal_key_of x.entry, internal_key_of one.entry, is_key x.entry fits.0, is_key one.entry one_fits.0, here.0) in
      let P : List ℕ → Type 0 = λ k. IsBelowInternal cmp k (internal_key one.entry) in
      below_last front one later (Some (internal_key x.entry)) (λ other is. (let same : internal_key x.entry ≡ other = cc in subst P same next)) fits.1 rises.1 last e

  module _ (start : Building) (old : Facts) where
    -- How far the entries were added: those in front are in the table, and the node is the first of
    -- the others.
    pub record HasAdded (builder : Building) (facts : Facts) (at : Option ℕ) (steps : ℕ) : Type 0 where
      pub front : List Placed
      pub back : List Placed
      pub parts : ordered cmp inserts ≡ front ++ back
      pub at_is : at ≡ first_of back
      pub few : length back + steps ≤ length inserts
      pub place : IfSome at (IsPlace inserts)
      pub name : builder.name ≡ start.name
      pub last : last_added builder ≡ last_key (pairs_of front)
      pub writes : Writes old facts start.name
      pub stood : facts.failures ≡ old.failures
      pub builds : IsTrue facts.faithful → Builds cmp start old [] → Builds cmp builder facts (pairs_of front)

    pub none_added : (at : Option ℕ) → last_added start ≡ None → at ≡ first_of (ordered cmp inserts) → IfSome at (IsPlace inserts) → HasAdded start old at 0
    none_added at none is within = record {
      front = [];
      back = ordered cmp inserts;
      parts = refl;
      at_is = is;
      few = omega (arith, length-ordered cmp inserts);
      place = within;
      name = refl;
      last = none;
      writes = writes_none old start.name;
      stood = refl;
      builds = λ t b. b;
    }

    -- the entry at the node is the next one
    pub record IsNext (front back : List Placed) (place : ℕ) (entry : Entry) : Type 0 where
      pub later : List Placed
      pub back_is : back ≡ record { node = place; entry = entry } ∷ later

    is_next : (front back : List Placed) (place : ℕ) (entry : Entry) → ordered cmp inserts ≡ front ++ back → Some place ≡ first_of back → entry_at inserts place ≡ Some entry → IsNext front back place entry
    is_next front [] place entry parts at kept = (let t : Some place ≡ None = at in absurd cc)
    is_next front (one ∷ later) place entry parts at kept =
        let node : one.node ≡ place = (let t : Some place ≡ Some one.node = at in cc) in
        let both : Some one.entry ≡ Some entry = sym (stands-insert cmp inserts front later one.node one.entry parts).1 ∙ ap (entry_at inserts) node ∙ kept in
        let same : one.entry ≡ entry = cc in
        record { later = later; back_is = λ i. record { node = node i; entry = same i } ∷ later }

    pub may_follow : (builder : Building) (facts : Facts) (at : Option ℕ) (steps place : ℕ) (entry : Entry) → HaveSequences inserts → RisesInternally cmp (ordered cmp inserts)
        → at ≡ Some place → entry_at inserts place ≡ Some entry → HasAdded builder facts at steps → MayFollow cmp builder (internal_key entry)
    may_follow builder facts at steps place entry fits rises is kept h =
        let next = is_next h.front h.back place entry h.parts (sym is ∙ h.at_is) kept in
        let one : Placed = record { node = place; entry = entry } in
        let whole : ordered cmp inserts ≡ h.front ++ one ∷ next.later = h.parts ∙ ap (λ (v : List Placed). h.front ++ v) next.back_is in
        record {
          parts = internal_key_of entry;
          parts_are = is_key entry (fits entry (among_at inserts (place - 1) entry kept));
          rises = λ last e.
              below_last h.front one next.later None (λ other none. (let t : None ≡ Some other = none in absurd cc))
              (subst (AllByRecursion (λ (x : Placed). x.entry.sequence < 2 ^ 56)) whole (each_placed cmp (λ (x : Entry). x.sequence < 2 ^ 56) inserts fits))
              (subst (RisesInternally cmp) whole rises) last (sym h.last ∙ e);
        }

    -- with it added
    pub one_added : (builder new : Building) (facts after : Facts) (at next : Option ℕ) (steps place : ℕ) (entry : Entry) → at ≡ Some place → entry_at inserts place ≡ Some entry
        → ((front back : List Placed) (entry : Entry) → Stands cmp inserts front place entry back → next ≡ first_of back) → IfSome next (IsPlace inserts)
        → new.name ≡ builder.name → last_added new ≡ Some (internal_key entry) → Writes facts after builder.name → after.failures ≡ facts.failures
        → ((pairs : List Pair) → IsTrue after.faithful → Builds cmp builder facts pairs → Builds cmp new after (pairs ++ pair_of entry ∷ []))
        → HasAdded builder facts at steps → HasAdded new after next (steps + 1)
    one_added builder new facts after at next steps place entry is kept neighbour within name last writes stood added h =
        let found = is_next h.front h.back place entry h.parts (sym is ∙ h.at_is) kept in
        let one : Placed = record { node = place; entry = entry } in
        let whole : ordered cmp inserts ≡ h.front ++ one ∷ found.later = h.parts ∙ ap (λ (v : List Placed). h.front ++ v) found.back_is in
        record {
          front = h.front ++ one ∷ [];
          back = found.later;
          parts = whole ∙ sym (append_assoc h.front (one ∷ []) found.later);
          at_is = neighbour h.front found.later entry whole;
          few = (let long = ap length found.back_is in omega (arith, h.few, long));
          place = within;
          name = name ∙ h.name;
          last = last ∙ sym (last-push None h.front one);
          writes = writes_then old facts after start.name h.writes (subst (Writes facts after) h.name writes);
          stood = stood ∙ h.stood;
          builds = λ t b. subst (Builds cmp new after) (sym (pairs-push h.front one)) (added (pairs_of h.front) t (h.builds (writes.faithful t) b));
        }

    -- an entry for which there is no room
    pub too_large : (builder : Building) (facts after : Facts) (at : Option ℕ) (steps place : ℕ) (entry : Entry) → at ≡ Some place → entry_at inserts place ≡ Some entry → HasAdded builder facts at steps
        → (IsTrue after.faithful → IsTrue facts.faithful) → NeedsLongBlock builder (pair_of entry) → IsTrue after.faithful → Builds cmp start old [] → AreLarge inserts
    too_large builder facts after at steps place entry is kept h back long t b =
        let found = is_next h.front h.back place entry h.parts (sym is ∙ h.at_is) kept in
        let one : Placed = record { node = place; entry = entry } in
        let whole : ordered cmp inserts ≡ h.front ++ one ∷ found.later = h.parts ∙ ap (λ (v : List Placed). h.front ++ v) found.back_is in
        front_room cmp inserts h.front one found.later whole (long_block cmp builder facts (pairs_of h.front) (h.builds (back t) b) (pair_of entry) long)

    -- ---- all of them

    all_front : (builder : Building) (facts : Facts) (at : Option ℕ) (steps : ℕ) → (at ≡ None) ⊎ (length inserts ≤ steps) → (h : HasAdded builder facts at steps) → h.front ≡ ordered cmp inserts
    all_front builder facts at steps ended h =
        let none : h.back ≡ [] = elim ended [ inl e ↦ none_first h.back (sym h.at_is ∙ e) | inr le ↦ none_left h.back (omega (arith, le, h.few)) ] in
        sym (h.parts ∙ ap (λ (v : List Placed). h.front ++ v) none ∙ append-nil h.front)

    pub all_added : (builder : Building) (facts : Facts) (at : Option ℕ) (steps : ℕ) → (at ≡ None) ⊎ (length inserts ≤ steps) → HasAdded builder facts at steps
        → IsTrue facts.faithful → Builds cmp start old [] → Builds cmp builder facts (pairs_of (ordered cmp inserts))
    all_added builder facts at steps ended h t b = subst (λ (v : List Placed). Builds cmp builder facts (pairs_of v)) (all_front builder facts at steps ended h) (h.builds t b)

    pub some_added : (builder : Building) (facts : Facts) (at : Option ℕ) (steps : ℕ) → 0 < length inserts → (at ≡ None) ⊎ (length inserts ≤ steps) → HasAdded builder facts at steps → IsSome (last_added builder)
    some_added builder facts at steps some ended h =
        let long : 0 < length (ordered cmp inserts) = omega (arith, some, length-ordered cmp inserts) in
        let last : last_added builder ≡ last_key (pairs_of (ordered cmp inserts)) = h.last ∙ ap (λ (v : List Placed). last_key (pairs_of v)) (all_front builder facts at steps ended h) in
        subst IsSome (sym last) (some_last (ordered cmp inserts) long)
