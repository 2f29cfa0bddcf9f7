-- One entry more is merged, and a job goes on.
use Rattle.std.proofs.Common.{◌^◌, ◌≡◌, ◌⊎◌, ◌<◌, ◌≤◌, ℕ, Bool, None, Result, Ok, List, [], ◌∷◌, ◌++◌, IsTrue, map, length, inl, inr, refl, sym, ap, subst, ◌∙◌}
use Rattle.coding.specs.declared.error.DbError.{DbError}
use Rattle.coding.specs.declared.error.DbError.TheVariants.{OutOfMemory, Io, Corrupt, Unsupported}
use Rattle.cursor.specs.declared.cursor.Cursor.{Ghosts as OfCursor}
use Rattle.cursor.specs.Merging.{listed}
use Rattle.cursor.specs.Cuts.{Cut}
use Rattle.cursor.specs.Moves.{Moves, Stays, Refuses}
use Rattle.cursor.specs.Places.{Cmp, Listed, within, to_first, to_next}
use Rattle.ikey.specs.declared.entry.Entry.{Entry}
use Rattle.ikey.specs.Entries.{InternalEntry, Pair, entry_of}
use Rattle.ikey.specs.Keys.{Key, IsKey}
use Rattle.store.specs.declared.has_store.HasStore.{Ghosts as OfSource}
use Rattle.store.specs.declared.store.Store.{Ghosts as OfStore}
use Rattle.store.specs.Files.{Facts}
use Rattle.table.specs.Reading.{IsErrorStill, Reads}
use Rattle.table.specs.Table.{ArePairs}
use Rattle.compact.specs.declared.selection.Choice.{Choice}
use Rattle.compact.specs.Choosing.{Choosing, Chooses, Precedes, ComesBehind, written_for}
use Rattle.compact.specs.declared.job.Job.{Job}
use Rattle.std.specs.List.{AllByRecursion}
use Rattle.compact.specs.Merging.{AreDisjoint, IsWellKept, IsMerging, IsUpTo, HasPassed, ReadsApart, IsJob, IsBetween, KeepsMine}
use Rattle.compact.specs.Outputs.{TablesWritten, IsWriting, IsMine, IsNumberAtHand, IsToCome, RefusesEntry, WritesTables}
use Rattle.compact.proofs.Merges.{merge-step, merging-none, mine-before}
use Rattle.compact.proofs.Passing.{passed-more}
use Rattle.compact.proofs.Writing.{refuses-as, writes-more}

pub apart-on : {C H S : Type 0} (facts : S → Facts) (store_of : H → S) (with_store : H → S → H) (gathers : H → ℕ → Type 0) (keeps : C → H → H → Type 0) (cursor other : C) (mine less : ℕ → Type 0)
    → ((n : ℕ) → less n → mine n) → ((s t : H) → keeps cursor s t → keeps other s t) → ReadsApart facts store_of with_store gathers keeps cursor mine → ReadsApart facts store_of with_store gathers keeps other less
apart-on facts store_of with_store gathers keeps cursor other mine less within_mine same apart source store t w =
    same source (with_store source store) (apart source store t
    (writes-more (facts (store_of source)) (facts store) (λ (n : ℕ). less n × (gathers source n → ⊥)) (λ (n : ℕ). mine n × (gathers source n → ⊥)) (λ n is. (within_mine n is.0, is.1)) w))

-- what cursors know of a source is what is known of its store
pub reads-held : {H S : Type 0} (facts : S → Facts) (store_of : H → S) (facts_of : H → Facts) → ((h : H) → facts_of h ≡ facts (store_of h)) → (old new : H) → Reads (facts_of old) (facts_of new) → Reads (facts (store_of old)) (facts (store_of new))
reads-held facts store_of facts_of are old new r = subst (λ (f : Facts). Reads f (facts (store_of new))) (are old) (subst (λ (f : Facts). Reads (facts_of old) f) (are new) r)

-- a refusal of a cursor is one of the job
pub refuses-moving : (e : DbError) (held_old held_new old new : Facts) (damaged limited spent : Type 0) → held_old ≡ old → held_new ≡ new → IsErrorStill e held_old held_new → Refuses e held_old held_new damaged limited
    → RefusesEntry e old new (IsTrue new.faithful → damaged) (IsTrue new.faithful → damaged ⊎ limited) spent
refuses-moving OutOfMemory a b old new damaged limited spent p q s h = ap (λ (f : Facts). f.failures) (sym q) ∙ s ∙ ap (λ (f : Facts). f.failures) p
refuses-moving Io a b old new damaged limited spent p q s h = subst (λ (f : Facts). f.failures < new.failures) p (subst (λ (f : Facts). a.failures < f.failures) q h)
refuses-moving (Corrupt file what) a b old new damaged limited spent p q s h = λ t. h (subst (λ (f : Facts). IsTrue f.faithful) (sym q) t)
refuses-moving (Unsupported what) a b old new damaged limited spent p q s h = λ t. h (subst (λ (f : Facts). IsTrue f.faithful) (sym q) t)
refuses-moving _ a b old new damaged limited spent p q s h = absurd h

pub refuses-same : (e : DbError) (held old mid new : Facts) (falls other too_long long spent : Type 0) → held ≡ old → mid ≡ new → (falls → other) → (too_long → long) → RefusesEntry e held mid falls too_long spent → RefusesEntry e old new other long spent
refuses-same e held old mid new falls other too_long long spent p q f l h =
    refuses-as e old old new falls too_long spent other long spent refl f l (λ u. u)
    (subst (λ (x : Facts). RefusesEntry e x new falls too_long spent) p (subst (λ (x : Facts). RefusesEntry e held x falls too_long spent) q h))

abbrev pub moved_on : Result (Unit {0}) DbError
moved_on = Ok tt

module _ {C H S : Type 0} (cmp : Cmp) (deep : List ℕ → Bool) (facts : S → Facts) (store_of : H → S) (with_store : H → S → H) (gathers : H → ℕ → Type 0) (facts_of : H → Facts)
    (lists : C → H → Listed → Type 0) (keeps : C → H → H → Type 0) (limited : C → H → Type 0) (torn : C → H → Cut → Type 0) (leaves : (ℕ → Type 0) → H → H → Type 0) (goes_over : C → ℕ → Type 0)
    (are : (h : H) → facts_of h ≡ facts (store_of h)) (replaced : (h : H) (s : S) → store_of (with_store h s) ≡ s)
    (beside : (h : H) (s : S) (n : ℕ) → gathers (with_store h s) n → gathers h n) (left : (cursor : C) (h i : H) → leaves (goes_over cursor) h i → (n : ℕ) → gathers i n → gathers h n ⊎ goes_over cursor n)
    (kept : (cursor : C) (old new : H) (at : Listed) → keeps cursor old new → lists cursor old at → lists cursor new at) where
  -- after the outputs were written, the cursor reads what it read
  pub still-keeps : (cursor moved : C) (source : H) (held store : S) (after : H) (mine : ℕ → Type 0)
      → held ≡ store_of source → WritesTables (facts held) (facts store) mine → ReadsApart facts store_of with_store gathers keeps cursor mine → AreDisjoint (gathers source) mine
      → Stays facts_of keeps limited torn leaves goes_over cursor moved (with_store source store) after
      → IsTrue (facts (store_of after)).faithful → keeps cursor source (with_store source store)
  still-keeps cursor moved source held store after mine is writes apart none stays t =
      let t_after : IsTrue (facts_of after).faithful = subst (λ (f : Facts). IsTrue f.faithful) (sym (are after)) t in
      let t_store : IsTrue (facts store).faithful = subst (λ (f : Facts). IsTrue f.faithful) (are (with_store source store) ∙ ap facts (replaced source store)) (stays.reads.faithful t_after) in
      apart source store t_store (writes-more (facts (store_of source)) (facts store) mine (λ (n : ℕ). mine n × (gathers source n → ⊥)) (λ n is_mine. (is_mine, λ kept_of. none n kept_of is_mine))
      (subst (λ (s : S). WritesTables (facts s) (facts store) mine) is writes))

  -- and lists what it listed
  pub still-lists : (cursor moved : C) (source : H) (held store : S) (after : H) (mine : ℕ → Type 0) (at : Listed)
      → held ≡ store_of source → WritesTables (facts held) (facts store) mine → ReadsApart facts store_of with_store gathers keeps cursor mine → AreDisjoint (gathers source) mine
      → Stays facts_of keeps limited torn leaves goes_over cursor moved (with_store source store) after
      → IsTrue (facts (store_of after)).faithful → lists cursor source at → lists cursor (with_store source store) at
  still-lists cursor moved source held store after mine at is writes apart none stays t h =
      kept cursor source (with_store source store) at (still-keeps cursor moved source held store after mine is writes apart none stays t) h

  -- after the outputs were written, the cursor moves on
  pub moves-on : (cursor moved : C) (source : H) (held store : S) (after : H) (mine : ℕ → Type 0) (came : List InternalEntry) (entry : InternalEntry) (rest : List InternalEntry)
      → held ≡ store_of source → WritesTables (facts held) (facts store) mine → ReadsApart facts store_of with_store gathers keeps cursor mine → AreDisjoint (gathers source) mine
      → Moves facts_of lists cursor moved (with_store source store) after moved_on to_next
      → Stays facts_of keeps limited torn leaves goes_over cursor moved (with_store source store) after
      → IsTrue (facts (store_of after)).faithful → HasPassed lists cursor source came (entry ∷ rest) → HasPassed lists moved after (came ++ entry ∷ []) rest
  moves-on cursor moved source held store after mine came entry rest is writes apart none moves stays t h =
      let t_after : IsTrue (facts_of after).faithful = subst (λ (f : Facts). IsTrue f.faithful) (sym (are after)) t in
      let at : Listed = listed (came ++ entry ∷ rest) (within (came ++ entry ∷ rest) (length came)) in
      passed-more lists moved after came entry rest (moves t_after at (still-lists cursor moved source held store after mine at is writes apart none stays t h))

  pub writes-move : (cursor moved : C) (source : H) (held store : S) (after : H) (mine : ℕ → Type 0) → held ≡ store_of source → WritesTables (facts held) (facts store) mine
      → Stays facts_of keeps limited torn leaves goes_over cursor moved (with_store source store) after → Reads (facts store) (facts (store_of after))
  writes-move cursor moved source held store after mine is writes stays =
      subst (λ (s : S). Reads (facts s) (facts (store_of after))) (replaced source store) (reads-held facts store_of facts_of are (with_store source store) after stays.reads)

  -- while no call of the store failed
  pub still-move : (source : H) (held store : S) (after : H) → held ≡ store_of source → (facts store).failures ≡ (facts held).failures
      → (facts_of after).failures ≡ (facts_of (with_store source store)).failures → (facts (store_of after)).failures ≡ (facts (store_of source)).failures
  still-move source held store after is wrote moved =
      let failures : Facts → ℕ = λ f. f.failures in
      ap failures (sym (are after)) ∙ moved ∙ ap failures (are (with_store source store)) ∙ ap (λ (s : S). (facts s).failures) (replaced source store) ∙ wrote ∙ ap (λ (s : S). (facts s).failures) is

  pub job-step : (last over : List ℕ) (cursor moved : C) (c e : Choosing) (w u : TablesWritten) (source : H) (held store : S) (after : H) (next more : ℕ) (came : List InternalEntry) (entry : InternalEntry) (rest : List InternalEntry) (choice : Choice)
      → held ≡ store_of source → WritesTables (facts held) (facts store) (IsMine w next) → next ≤ more → more < 2 ^ 64 → KeepsMine w next u more
      → Moves facts_of lists cursor moved (with_store source store) after moved_on to_next
      → Stays facts_of keeps limited torn leaves goes_over cursor moved (with_store source store) after
      → IsTrue (facts (store_of after)).faithful
      → IsKey over entry.key
      → ((last_key : Key) (x : Entry) → IsKey last last_key → IsUpTo cmp x last_key → Precedes cmp x (entry_of entry))
      → ((xs ys : List Entry) → ComesBehind cmp xs (entry_of entry) → Chooses cmp deep c xs ys → Chooses cmp deep e (xs ++ entry_of entry ∷ []) (ys ++ written_for choice e.released (entry_of entry)))
      → (IsTrue (facts store).faithful → (pairs : List Pair) (kept : List InternalEntry) → ArePairs pairs kept → IsWriting cmp w (facts held) next pairs
      → (new : List Pair) × (added : List InternalEntry) × IsWriting cmp u (facts store) more new × ArePairs new (kept ++ added) × (map entry_of added ≡ written_for choice e.released (entry_of entry)) × AllByRecursion IsWellKept added)
      → IsJob cmp deep facts store_of with_store gathers lists keeps goes_over last cursor c w source next came (entry ∷ rest)
      → IsJob cmp deep facts store_of with_store gathers lists keeps goes_over over moved e u after more (came ++ entry ∷ []) rest
  job-step last over cursor moved c e w u source held store after next more came entry rest choice is writes le fits keeps_mine moves stays t over_is order chosen wrote h =
      let mine : (n : ℕ) → IsMine u more n → IsMine w next n = λ n is_mine. mine-before w u next more n le fits keeps_mine is_mine in
      let r = writes-move cursor moved source held store after (IsMine w next) is writes stays in
      let merged = merge-step cmp deep (facts held) (facts store) (facts (store_of after)) last over c e w u next more came entry choice over_is (r.files t) (r.synced t) (r.calls t) order chosen (wrote (r.faithful t)) h.goes_on
      (subst (λ (s : S). IsMerging cmp deep last c w (facts s) next came) (sym is) h.merging) in
      record {
        merging = merged.0;
        goes_on = merged.1;
        left = moves-on cursor moved source held store after (IsMine w next) came entry rest is writes h.apart h.ungathered moves stays t h.left;
        apart = apart-on facts store_of with_store gathers keeps cursor moved (IsMine w next) (IsMine u more) mine stays.same h.apart;
        ungathered = λ n kept_of is_mine. elim (left cursor (with_store source store) after stays.left n kept_of) [
          | inl before ↦ h.ungathered n (beside source store n before) (mine n is_mine)
          | inr read ↦ h.outside n read (mine n is_mine)
        ];
        outside = λ n read is_mine. h.outside n (stays.within n read) (mine n is_mine);
      }

-- ---- the same job, with lists that are the same

module _ {K C H S : Type 0} (cmp : Cmp) (deep : List ℕ → Bool) (of_store : OfStore S) (of_source : OfSource H S) (of_cursor : OfCursor C K H) (job : Job K C) (source : H) (next : ℕ) where
  pub job-more : (came back rest : List InternalEntry) → back ≡ rest
      → IsBetween cmp deep of_store of_source of_cursor job source next came back → IsBetween cmp deep of_store of_source of_cursor job source next came rest
  job-more came back rest e h = subst (λ (l : List InternalEntry). IsBetween cmp deep of_store of_source of_cursor job source next came l) e h

  pub job-all : (came front rest : List InternalEntry) → came ≡ front
      → IsBetween cmp deep of_store of_source of_cursor job source next came rest → IsBetween cmp deep of_store of_source of_cursor job source next front rest
  job-all came front rest e h = subst (λ (l : List InternalEntry). IsBetween cmp deep of_store of_source of_cursor job source next l rest) e h

-- ---- a job begins

pub starts : {C H S : Type 0} (cmp : Cmp) (deep : List ℕ → Bool) (facts : S → Facts) (store_of : H → S) (with_store : H → S → H) (gathers : H → ℕ → Type 0) (facts_of : H → Facts) (lists : C → H → Listed → Type 0) (keeps : C → H → H → Type 0) (limited : C → H → Type 0) (torn : C → H → Cut → Type 0) (leaves : (ℕ → Type 0) → H → H → Type 0) (goes_over : C → ℕ → Type 0)
    → ((h : H) → facts_of h ≡ facts (store_of h)) → ((cursor : C) (h i : H) → leaves (goes_over cursor) h i → (n : ℕ) → gathers i n → gathers h n ⊎ goes_over cursor n) → (last : List ℕ) (cursor moved : C) (c : Choosing) (w : TablesWritten) (source after : H) (next : ℕ) (at : Listed)
    → w ≡ record { closed = []; at_hand = None } → last ≡ []
    → Chooses cmp deep c [] [] → IsWriting cmp w (facts (store_of after)) next []
    → Moves facts_of lists cursor moved source after moved_on to_first → Stays facts_of keeps limited torn leaves goes_over cursor moved source after
    → IsTrue (facts (store_of after)).faithful → lists cursor source at → ReadsApart facts store_of with_store gathers keeps cursor (IsToCome next)
    → AreDisjoint (gathers source) (IsToCome next) → AreDisjoint (goes_over cursor) (IsToCome next)
    → IsJob cmp deep facts store_of with_store gathers lists keeps goes_over last moved c w after next [] at.entries
starts cmp deep facts store_of with_store gathers facts_of lists keeps limited torn leaves goes_over are left last cursor moved c w source after next at none empty chooses written moves stays t h apart ungathered outside = record {
  merging = merging-none cmp deep last c w (facts (store_of after)) next empty chooses written.written;
  goes_on = written.goes_on;
  left = moves (subst (λ (f : Facts). IsTrue f.faithful) (sym (are after)) t) at h;
  apart = apart-on facts store_of with_store gathers keeps cursor moved (IsToCome next) (IsMine w next) (λ n is. mine-next w next n none is) stays.same apart;
  ungathered = λ n kept_of is. elim (left cursor source after stays.left n kept_of) [
    | inl before ↦ ungathered n before (mine-next w next n none is)
    | inr read ↦ outside n read (mine-next w next n none is)
  ];
  outside = λ n read is. outside n (stays.within n read) (mine-next w next n none is);
}
  where
    mine-next : (w : TablesWritten) (next n : ℕ) → w ≡ record { closed = []; at_hand = None } → IsMine w next n → IsToCome next n
    mine-next w next n none (inl at) = absurd (subst (λ (v : TablesWritten). IsNumberAtHand v n) none at)
    mine-next w next n none (inr le) = le
