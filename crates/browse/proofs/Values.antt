-- The values of keys, one after the other.
use Rattle.std.proofs.Common.{◌≡◌, ◌<◌, ◌+◌, max, ℕ, IsTrue, List, Option, Result, Ok, Err, drop, get_or, inl, inr, length, refl, sym, subst, arith}
use Rattle.std.specs.Prelude.{IfOk, OnOk}
use Rattle.std.specs.Io.KnownBytes.{Appends}
use Rattle.coding.specs.declared.error.DbError.{DbError}
use Rattle.std.proofs.lemmas.List.{drop_more}
use Rattle.ikey.specs.Orders.{Order}
use Rattle.ikey.specs.Views.{Contents, IsView}
use Rattle.store.specs.Files.{Facts, Files}
use Rattle.table.specs.Reading.{Reads}
use Rattle.recover.specs.Directory.{Directory, IsConsistent, entries_in, used_in}
use Rattle.reader.specs.declared.reader.Reader.{Reader}
use Rattle.reader.specs.Readers.{KeepsMaps, ShowsMap, facts_of}
use Rattle.browse.specs.declared.form.Form.{Form}
use Rattle.browse.specs.declared.showing.Showing.TheVariants.{EachLine}
use Rattle.browse.specs.declared.showing.Showing.{Showing}
use Rattle.browse.specs.Browsing.{Gets, GetsEach, IsRead, IsThere, value_status, value_text}
use Rattle.browse.specs.internal.Opened.{IsOpen}

pub reads_none : (facts : Facts) → Reads facts facts
reads_none facts = record { faithful = λ f. f; files = λ f. refl; failures = omega arith; writes = refl; denials = refl; locked = refl; synced = λ f. refl; calls = λ f. refl }

-- ---- an open reader

-- by the directory that was there as it was opened
pub is_open : {S K : Type 0} (order : Order) (facts : S → Facts) (old : Facts) (reader : Reader S K) → Reads old (facts_of facts reader)
    → (IsTrue (facts_of facts reader).faithful → (d : Directory) (m : Contents) → IsConsistent order old.files d → IsView (entries_in d) (used_in d) m → ShowsMap order facts reader m)
    → (IsTrue (facts_of facts reader).faithful → IsThere order old.files) → IsOpen order facts reader
is_open order facts old reader reads shows there = record {
  shows = λ f d m good view. shows f d m (subst (λ (fs : Files). IsConsistent order fs d) (reads.files f) good) view;
  there = λ f. subst (λ (fs : Files). IsThere order fs) (sym (reads.files f)) (there f);
}

-- after a call that keeps the map
pub still_open : {S K : Type 0} (order : Order) (facts : S → Facts) (old new : Reader S K) → IsOpen order facts old → Reads (facts_of facts old) (facts_of facts new) → KeepsMaps order facts old new → IsOpen order facts new
still_open order facts old new was reads keeps = record {
  shows = λ f d m good view. keeps f m (was.shows (reads.faithful f) d m (subst (λ (fs : Files). IsConsistent order fs d) (reads.files f) good) view);
  there = λ f. subst (λ (fs : Files). IsThere order fs) (sym (reads.files f)) (was.there (reads.faithful f));
}

-- what was read of a key was written
pub gets_so : {E : Type 0} (r : Result ℕ E) (order : Order) (old new : Facts) (key : List ℕ) (showing : Showing) (before after : Option (List ℕ)) (answer : Result (Option (List ℕ)) DbError)
    → IsRead order old new key answer → OnOk r (Appends before after (value_text showing answer)) → IfOk r (λ status. status ≡ value_status answer) → IfOk r (Gets order old new key showing before after)
gets_so (Ok status) order old new key showing before after answer read written is = record { answer = answer; read = read; written = written; ended = is }
gets_so (Err e) order old new key showing before after answer read written is = tt

-- ---- key after key

module _ (order : Order) (form : Form) (keys : List (List ℕ)) (i : ℕ) (d : List ℕ) (within : i < length keys) (so_far : ℕ) (old new : Facts) (before after : Option (List ℕ)) (status : ℕ) where
  pub stopped_at : Gets order old new (get_or keys i d) (EachLine form) before after 1 → status ≡ 1 → GetsEach order form (drop i keys) so_far old new before after status
  stopped_at h is = subst (λ (ks : List (List ℕ)). GetsEach order form ks so_far old new before after status) (sym (drop_more keys i d within)) (inl (h, is))

  pub goes_on : (mid : Facts) (between : Option (List ℕ)) (one now : ℕ) → Gets order old mid (get_or keys i d) (EachLine form) before between one → Reads old mid → (one ≡ 1 → ⊥) → now ≡ max so_far one
      → GetsEach order form (drop (i + 1) keys) now mid new between after status → GetsEach order form (drop i keys) so_far old new before after status
  goes_on mid between one now h reads other is rest =
      let R : ℕ → Type 0 = λ n. GetsEach order form (drop (i + 1) keys) n mid new between after status in
      subst (λ (ks : List (List ℕ)). GetsEach order form ks so_far old new before after status) (sym (drop_more keys i d within)) (inr (mid, between, one, h, reads, other, subst R is rest))
