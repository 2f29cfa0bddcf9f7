-- What was merged and written.
use Rattle.std.proofs.Common.{◌^◌, ◌≡◌, ◌<◌, ◌≤◌, ◌+◌, ℕ, Bool, true, nat_lt, Option, Some, None, List, [], ◌∷◌, ◌++◌, map, length, take, get_or, inl, inr, refl, sym, ap, subst, ◌∙◌, arith}
use Rattle.std.specs.List.{AllByRecursion}
use Rattle.std.specs.declared.cmp.Ordering.{Ordering}
use Rattle.std.specs.declared.cmp.Ordering.TheVariants.{Less}
use Rattle.std.specs.Cmp.{IsTotalOrder}
use Rattle.std.proofs.lemmas.Bool.{cases_lt, le-ltb}
use Rattle.std.proofs.lemmas.List.{append_assoc, map-append, take_more}
use mathlib.Core.Bool.{true≢false}
use Rattle.ikey.specs.declared.entry.Entry.{Entry}
use Rattle.ikey.specs.Keys.{Key, IsKey}
use Rattle.ikey.specs.Orders.{Order, order_of}
use Rattle.ikey.specs.Sources.{ComesBefore, AreSorted}
use Rattle.ikey.specs.Below.{same_key}
use Rattle.ikey.specs.declared.internal_key.Kind.{Kind}
use Rattle.ikey.specs.declared.internal_key.Kind.TheVariants.{Delete, Put}
use Rattle.std.specs.FinMap.{get, contains_key}
use Rattle.std.specs.Bool.{MatchBool}
use Rattle.edits.specs.declared.field.TableFile.{TableFile}
use Rattle.table.specs.Building.{Building, Builds, last_added}
use Rattle.compact.specs.declared.selection.Choice.{Choice}
use Rattle.compact.specs.declared.selection.Choice.TheVariants.{Write}
use Rattle.ikey.specs.Views.{Among}
use Rattle.compact.specs.Choosing.{Choosing, Chooses, Precedes, ComesBehind, delete_of, written_for}
use Rattle.ikey.specs.Entries.{InternalEntry, Pair, IsPair, entry_of, kind_of, value_of}
use Rattle.store.specs.Files.{Facts}
use Rattle.store.proofs.Staying.{stays_same}
use Rattle.table.specs.Table.{ArePairs}
use Rattle.compact.specs.Outputs.{table_name, Filling, AreClosed, IsAtHand, TablesWritten, HasWritten, IsWriting, IsOpen, IsMine, IsMineUpTo, WritesTables}
use Rattle.compact.specs.Merging.{IsWellKept, KeepsMine, kept_delete, IsUpTo, IsMerging}
use Rattle.compact.proofs.Loads.{well-append}
use Rattle.compact.proofs.Parts.{Among-push}
use Rattle.compact.proofs.Writing.{mine-in, mine-up, writes-then}

pub mine-then : (o u : TablesWritten) (n m e k : ℕ) → n ≤ m → m ≤ e → KeepsMine o n u m → IsMineUpTo u m e k → IsMineUpTo o n e k
mine-then o u n m e k le more keeps (inl at) = mine-up o n m e k more (keeps k at)
mine-then o u n m e k le more keeps (inr h) = inr (omega (arith, le, h.0), h.1)

pub mine-on : (o u v : TablesWritten) (n m e : ℕ) → n ≤ m → m ≤ e → KeepsMine o n u m → KeepsMine u m v e → KeepsMine o n v e
mine-on o u v n m e le more keeps last = λ k at. mine-then o u n m e k le more keeps (last k at)

-- what is to be written was to be written before
pub mine-before : (o u : TablesWritten) (n m k : ℕ) → n ≤ m → m < 2 ^ 64 → KeepsMine o n u m → IsMine u m k → IsMine o n k
mine-before o u n m k le fits keeps (inl at) = mine-in o n m k fits (keeps k at)
mine-before o u n m k le fits keeps (inr more) = inr (omega (arith, le, more.0), more.1)

pub writes-on : (a b d : Facts) (o u : TablesWritten) (n m e : ℕ) → n ≤ m → m ≤ e → KeepsMine o n u m → WritesTables a b (IsMineUpTo o n m) → WritesTables b d (IsMineUpTo u m e) → WritesTables a d (IsMineUpTo o n e)
writes-on a b d o u n m e le more keeps w v = writes-then a b d (IsMineUpTo o n m) (IsMineUpTo u m e) (IsMineUpTo o n e) (λ k h. mine-up o n m e k more h) (λ k h. mine-then o u n m e k le more keeps h) w v

pub pairs-push : (pairs : List Pair) (entries : List InternalEntry) (pair : Pair) (entry : InternalEntry) → ArePairs pairs entries → IsPair pair entry → ArePairs (pairs ++ pair ∷ []) (entries ++ entry ∷ [])
pairs-push [] [] pair entry h is = (is, tt)
pairs-push [] (e ∷ entries) pair entry h is = absurd h
pairs-push (p ∷ pairs) [] pair entry h is = absurd h
pairs-push (p ∷ pairs) (e ∷ entries) pair entry h is = (h.0, pairs-push pairs entries pair entry h.1 is)

-- ---- the order of the entries

behind-less : (cmp : List ℕ → List ℕ → Ordering) → IsTotalOrder cmp → (entry next : Entry) (k : Key) (user : List ℕ) → cmp k.user user ≡ Less → IsUpTo cmp entry k → next.key ≡ user → Precedes cmp entry next
behind-less cmp o entry next k user less (inl below) is = inl (subst (λ (u : List ℕ). cmp entry.key u ≡ Less) (sym is) (o.trans entry.key k.user user below less))
behind-less cmp o entry next k user less (inr (same, le)) is = inl (subst (λ (u : List ℕ). cmp entry.key u ≡ Less) (sym is) (ap (λ u. cmp u user) same ∙ less))

behind-equal : (cmp : List ℕ → List ℕ → Ordering) (entry next : Entry) (k : Key) (user : List ℕ) (sequence : ℕ) → k.user ≡ user → sequence < k.sequence → IsUpTo cmp entry k → next.key ≡ user → next.sequence ≡ sequence → Precedes cmp entry next
behind-equal cmp entry next k user sequence equal less (inl below) is at = inl (subst (λ (u : List ℕ). cmp entry.key u ≡ Less) (equal ∙ sym is) below)
behind-equal cmp entry next k user sequence equal less (inr (same, le)) is at = inr (same ∙ equal ∙ sym is, omega (arith, less, le, at))

pub precedes-less : (cmp : List ℕ → List ℕ → Ordering) → IsTotalOrder cmp → (bytes more : List ℕ) (k other l next_key : Key) (entry next : Entry) → IsKey bytes k → IsKey bytes other → IsKey more l → IsKey more next_key → cmp k.user l.user ≡ Less
    → IsUpTo cmp entry other → next.key ≡ next_key.user → Precedes cmp entry next
precedes-less cmp o bytes more k other l next_key entry next h j m n less up is =
    behind-less cmp o entry next k l.user less (subst (IsUpTo cmp entry) (same_key bytes other k j h) up) (is ∙ ap (λ (x : Key). x.user) (same_key more next_key l n m))

pub precedes-equal : (cmp : List ℕ → List ℕ → Ordering) (bytes more : List ℕ) (k other l next_key : Key) (entry next : Entry) → IsKey bytes k → IsKey bytes other → IsKey more l → IsKey more next_key → k.user ≡ l.user → l.sequence < k.sequence
    → IsUpTo cmp entry other → next.key ≡ next_key.user → next.sequence ≡ next_key.sequence → Precedes cmp entry next
precedes-equal cmp bytes more k other l next_key entry next h j m n same less up is at =
    behind-equal cmp entry next k l.user l.sequence same less (subst (IsUpTo cmp entry) (same_key bytes other k j h) up)
    (is ∙ ap (λ (x : Key). x.user) (same_key more next_key l n m)) (at ∙ ap (λ (x : Key). x.sequence) (same_key more next_key l n m))

pub lt-of : (a b : ℕ) → nat_lt a b ≡ true → a < b
lt-of a b e = elim (cases_lt a b) [ inl l ↦ l | inr g ↦ absurd (true≢false (sym e ∙ le-ltb a b g)) ]

-- ---- deletes, one after another

pub one-more : (user : List ℕ) (sequences : List ℕ) (i : ℕ) (pairs : List Pair) (kept : List InternalEntry) (pair : Pair) → i < length sequences
    → ArePairs pairs (kept ++ map (kept_delete user) (take i sequences)) → IsPair pair (kept_delete user (get_or sequences i 0))
    → ArePairs (pairs ++ pair ∷ []) (kept ++ map (kept_delete user) (take (i + 1) sequences))
one-more user sequences i pairs kept pair lt are is =
    let f = kept_delete user in
    let s = get_or sequences i 0 in
    subst (ArePairs (pairs ++ pair ∷ []))
    (append_assoc kept (map f (take i sequences)) (f s ∷ []) ∙ ap (λ l. kept ++ l) (sym (map-append f (take i sequences) (s ∷ []))) ∙ ap (λ l. kept ++ map f l) (sym (take_more sequences i 0 lt)))
    (pairs-push pairs (kept ++ map f (take i sequences)) pair (f s) are is)

-- ---- what is written for an entry

deletes-of : (user : List ℕ) (sequences : List ℕ) → map entry_of (map (kept_delete user) sequences) ≡ map (delete_of user) sequences
deletes-of user [] = refl
deletes-of user (s ∷ sequences) = ap (λ l. delete_of user s ∷ l) (deletes-of user sequences)

pub chosen-is : (choice : Choice) → choice ≡ Write → (user released : List ℕ) (entry : InternalEntry) → entry.key.user ≡ user
    → map entry_of (map (kept_delete user) released ++ entry ∷ []) ≡ written_for choice released (entry_of entry)
chosen-is choice is user released entry same =
    map-append entry_of (map (kept_delete user) released) (entry ∷ []) ∙ ap (λ l. l ++ entry_of entry ∷ []) (deletes-of user released)
    ∙ ap (λ u. map (delete_of u) released ++ entry_of entry ∷ []) (sym same) ∙ ap (λ x. written_for x released (entry_of entry)) (sym is)

pub kind-kept : (kind : Kind) (value : List ℕ) → kind_of (value_of kind value) ≡ kind
kind-kept Delete value = refl
kind-kept Put value = refl

-- ---- the same files

closed-same : (cmp : List ℕ → List ℕ → Ordering) (a b : Facts) → b.files ≡ a.files → b.synced ≡ a.synced → b.calls ≡ a.calls → (cs : List TableFile) (ts : List (List Pair)) → AreClosed cmp a cs ts → AreClosed cmp b cs ts
closed-same cmp a b same still calls [] [] h = tt
closed-same cmp a b same still calls [] (pairs ∷ ts) h = absurd h
closed-same cmp a b same still calls (table ∷ cs) [] h = absurd h
closed-same cmp a b same still calls (table ∷ cs) (pairs ∷ ts) h = (
  (let name = table_name table.number in
      record {
        file = h.0.file;
        has = ap (λ files. get files name) same ∙ h.0.has;
        synced = ap (λ synced. synced name) still ∙ h.0.synced;
        stays = stays_same a b name calls (ap (λ files. contains_key files name) same) h.0.stays;
        table_of = h.0.table_of;
        size = h.0.size;
        smallest = h.0.smallest;
        largest = h.0.largest;
      }),
  closed-same cmp a b same still calls cs ts h.1,
)

builds-same : (cmp : List ℕ → List ℕ → Ordering) (a b : Facts) → b.files ≡ a.files → (t : Building) (pairs : List Pair) → Builds cmp t a pairs → Builds cmp t b pairs
builds-same cmp a b same t pairs (file, has, part) =
    (file, subst (λ files. MatchBool t.created (get files t.name ≡ Some file) ((file ≡ []) × (last_added t ≡ None))) (sym same) has, part)

at-hand-same : (cmp : List ℕ → List ℕ → Ordering) (a b : Facts) → b.files ≡ a.files → (o : Option Filling) (pairs : List Pair) → IsAtHand cmp a o pairs → IsAtHand cmp b o pairs
at-hand-same cmp a b same None pairs h = h
at-hand-same cmp a b same (Some t) pairs h = (record { builds = builds-same cmp a b same t.building pairs h.0.builds; smallest = h.0.smallest; largest = h.0.largest }, h.1)

pub written-same : (cmp : List ℕ → List ℕ → Ordering) (w : TablesWritten) (a b : Facts) (next : ℕ) (pairs : List Pair) → b.files ≡ a.files → b.synced ≡ a.synced → b.calls ≡ a.calls → HasWritten cmp w a next pairs → HasWritten cmp w b next pairs
written-same cmp w a b next pairs same still calls h = record {
  tables = h.tables;
  rest = h.rest;
  closed_are = closed-same cmp a b same still calls w.closed h.tables h.closed_are;
  rest_is = at-hand-same cmp a b same w.at_hand h.rest h.rest_is;
  all = h.all;
  ends = h.ends;
  closed_numbers = h.closed_numbers;
  number = h.number;
}

-- ---- one entry is merged

up-to : (cmp : List ℕ → List ℕ → Ordering) (x : Entry) (k : Key) (value : List ℕ) → Precedes cmp x (entry_of (record { key = k; value = value })) → IsUpTo cmp x k
up-to cmp x k value (inl less) = inl less
up-to cmp x k value (inr (same, lt)) = inr (same, omega (arith, lt))

among-last : (came : List InternalEntry) (entry : InternalEntry) → Among (came ++ entry ∷ []) entry
among-last [] entry = inl refl
among-last (first ∷ came) entry = inr (among-last came entry)

sorted-push : (order : Order) (xs : List Entry) (x : Entry) → AreSorted order xs → ComesBehind order.cmp xs x → AreSorted order (xs ++ x ∷ [])
sorted-push order [] x h behind = ((λ other m. absurd m), tt)
sorted-push order (y ∷ xs) x h behind = (
  λ other m. elim (Among-push xs x other m) [
    | inl n ↦ h.0 other n
    | inr same ↦ subst (λ (v : Entry). ComesBefore order y v) (sym same) (behind y (inl refl))
  ],
  sorted-push order xs x h.1 (λ entry m. behind entry (inr m)),
)

pub merge-step : (cmp : List ℕ → List ℕ → Ordering) (deep : List ℕ → Bool) (a b d : Facts) (last over : List ℕ) (c e : Choosing) (w u : TablesWritten) (next more : ℕ) (came : List InternalEntry) (entry : InternalEntry) (choice : Choice)
    → IsKey over entry.key → d.files ≡ b.files → d.synced ≡ b.synced → d.calls ≡ b.calls
    → ((last_key : Key) (x : Entry) → IsKey last last_key → IsUpTo cmp x last_key → Precedes cmp x (entry_of entry))
    → ((xs ys : List Entry) → ComesBehind cmp xs (entry_of entry) → Chooses cmp deep c xs ys → Chooses cmp deep e (xs ++ entry_of entry ∷ []) (ys ++ written_for choice e.released (entry_of entry)))
    → ((pairs : List Pair) (kept : List InternalEntry) → ArePairs pairs kept → IsWriting cmp w a next pairs
    → (new : List Pair) × (added : List InternalEntry) × IsWriting cmp u b more new × ArePairs new (kept ++ added) × (map entry_of added ≡ written_for choice e.released (entry_of entry)) × AllByRecursion IsWellKept added)
    → IsOpen w → IsMerging cmp deep last c w a next came → IsMerging cmp deep over e u d more (came ++ entry ∷ []) × IsOpen u
merge-step cmp deep a b d last over c e w u next more came entry choice over_is files still calls order chosen wrote further h =
    let behind : ComesBehind cmp (map entry_of came) (entry_of entry) = λ x m. let last_bound = h.bound x m in order last_bound.0 x last_bound.1 last_bound.2 in
    let new = wrote h.written h.kept h.written_are (record { written = h.has_written; goes_on = further }) in
    let all : map entry_of came ++ entry_of entry ∷ [] ≡ map entry_of (came ++ entry ∷ []) = sym (map-append entry_of came (entry ∷ [])) in
    let out : map entry_of h.kept ++ written_for choice e.released (entry_of entry) ≡ map entry_of (h.kept ++ new.1) =
    ap (λ l. map entry_of h.kept ++ l) (sym new.4) ∙ sym (map-append entry_of h.kept new.1) in (
      record {
        written = new.0;
        kept = h.kept ++ new.1;
        written_are = new.3;
        well_kept = well-append h.kept new.1 h.well_kept new.5;
        has_written = written-same cmp u b d more new.0 files still calls new.2.written;
        chooses = subst (λ (xs : List Entry). Chooses cmp deep e xs (map entry_of (h.kept ++ new.1))) all
            (subst (Chooses cmp deep e (map entry_of came ++ entry_of entry ∷ [])) out (chosen (map entry_of came) (map entry_of h.kept) behind h.chooses));
        last_is = inr (entry, among-last came entry, over_is);
        bound = λ x m. (
          entry.key,
          over_is,
          elim (Among-push (map entry_of came) (entry_of entry) x (subst (λ (xs : List Entry). Among xs x) (sym all) m)) [
            | inl n ↦ up-to cmp x entry.key entry.value (behind x n)
            | inr same ↦ inr (ap (λ (o : Entry). o.key) same, let at : x.sequence ≡ entry.key.sequence = ap (λ (o : Entry). o.sequence) same in omega (arith, at))
          ],
        );
        sorted = λ name. subst (AreSorted (order_of name cmp)) all (sorted-push (order_of name cmp) (map entry_of came) (entry_of entry) (h.sorted name) behind);
      },
      new.2.goes_on,
    )

-- ---- before the first entry, and after the last

pub merging-none : (cmp : List ℕ → List ℕ → Ordering) (deep : List ℕ → Bool) (last : List ℕ) (c : Choosing) (w : TablesWritten) (facts : Facts) (next : ℕ)
    → last ≡ [] → Chooses cmp deep c [] [] → HasWritten cmp w facts next [] → IsMerging cmp deep last c w facts next []
merging-none cmp deep last c w facts next empty chooses written = record {
  written = [];
  kept = [];
  written_are = tt;
  well_kept = tt;
  has_written = written;
  chooses = chooses;
  last_is = inl (refl, empty);
  bound = λ x m. absurd m;
  sorted = λ name. tt;
}

pub merging-closed : (cmp : List ℕ → List ℕ → Ordering) (deep : List ℕ → Bool) (last : List ℕ) (c : Choosing) (w u : TablesWritten) (a b : Facts) (next : ℕ) (came : List InternalEntry)
    → ((pairs : List Pair) → HasWritten cmp w a next pairs → HasWritten cmp u b next pairs) → IsMerging cmp deep last c w a next came → IsMerging cmp deep last c u b next came
merging-closed cmp deep last c w u a b next came closes h = record {
  written = h.written;
  kept = h.kept;
  written_are = h.written_are;
  well_kept = h.well_kept;
  has_written = closes h.written h.has_written;
  chooses = h.chooses;
  last_is = h.last_is;
  bound = h.bound;
  sorted = h.sorted;
}
