-- What a scan tells, by what its reader shows.
use Rattle.std.proofs.Common.{◌≡◌, ℕ, IsTrue, List, [], Option, Result, Ok, Err, inl, refl, subst, sym}
use Rattle.std.specs.Prelude.{IfErr, IfOk, OnOk}
use Rattle.std.specs.Cmp.{IsTotalOrder}
use Rattle.std.specs.FinMap.{get}
use Rattle.std.specs.Io.KnownBytes.{Appends}
use Rattle.coding.specs.declared.error.DbError.{DbError}
use Rattle.ikey.specs.Orders.{Order}
use Rattle.ikey.specs.Views.{Contents, IsView}
use Rattle.store.specs.Files.{Facts}
use Rattle.table.specs.Reading.{Reads}
use Rattle.recover.specs.Directory.{Directory, IsConsistent, entries_in, used_in}
use Rattle.recover.specs.Reading.{IsErrorCounted}
use Rattle.reader.specs.declared.reader.Reader.{Reader}
use Rattle.reader.specs.Readers.{RefusesGet, ShowsMap, facts_of}
use Rattle.reader.specs.Refusals.{RefusesReader}
use Rattle.browse.specs.declared.choice.Choice.{Choice}
use Rattle.script.proofs.Written.{appends_none}
use Rattle.browse.specs.Browsing.{IsRead, IsThere, Scans, end_status}
use Rattle.browse.specs.Refusals.{RefusesScan}
use Rattle.browse.specs.internal.Printing.{PrintsMap, TellsMap}
use Rattle.browse.specs.internal.Walking.{RefusesMove}
use Rattle.browse.proofs.Consistent.{open_refused, pairs_refused, scan_refused, shown, value_refused}
use Rattle.browse.proofs.Printed.{tells_map}

module _ {S K : Type 0} (order : Order) (total : IsTotalOrder order.cmp) (facts : S → Facts) (old : Facts) (reader : Reader S K) (reads : Reads old (facts_of facts reader)) (stood : (facts_of facts reader).failures ≡ old.failures)
    (shows : IsTrue (facts_of facts reader).faithful → (d : Directory) (m : Contents) → IsConsistent order old.files d → IsView (entries_in d) (used_in d) m → ShowsMap order facts reader m)
    (there : IsTrue (facts_of facts reader).faithful → IsThere order old.files) (new : Reader S K) (later : Reads (facts_of facts reader) (facts_of facts new)) where
  pub scans : (choice : Choice) (before after : Option (List ℕ)) (status : ℕ) → TellsMap order choice facts reader new before after status → Scans order old (facts_of facts new) choice before after status
  scans choice before after status t = record {
    came = t.came;
    answer = t.answer;
    told = λ f m means. t.told f m (shown order total facts old reader reads stood shows there (later.faithful f) m means);
    there = there_on t.answer;
    refused = refused_on t.answer t.refused;
    written = t.written;
    ended = t.ended;
  }
    where
      there_on : (answer : Result (Unit {0}) DbError) → IfOk answer (λ done. IsTrue (facts_of facts new).faithful → IsThere order old.files)
      there_on (Ok done) = λ f. there (later.faithful f)
      there_on (Err e) = tt

      refused_on : (answer : Result (Unit {0}) DbError) → IfErr answer (λ e. RefusesMove order.cmp e (facts_of facts reader) (facts_of facts new) (λ P. (m : Contents) → ShowsMap order facts reader m → P)) → IfErr answer (λ e. RefusesScan order e old (facts_of facts new))
      refused_on (Ok done) h = tt
      refused_on (Err e) h = pairs_refused order total facts old reader reads stood shows there new later e h

  pub is_read : (key : List ℕ) (answer : Result (Option (List ℕ)) DbError) → IfOk answer (λ value. IsTrue (facts_of facts new).faithful → (m : Contents) → ShowsMap order facts reader m → value ≡ get m key)
      → IfErr answer (RefusesGet order facts reader new) → IsRead order old (facts_of facts new) key answer
  is_read key (Ok value) found refused = record {
    found = λ f m means. found f m (shown order total facts old reader reads stood shows there (later.faithful f) m means);
    there = λ f. there (later.faithful f);
    refused = tt;
  }
  is_read key (Err e) found refused = record { found = tt; there = tt; refused = value_refused order total facts old reader reads stood shows there new later e refused }

pub not_read : (order : Order) (e : DbError) (old new : Facts) (key : List ℕ) → RefusesReader order e old new → IsErrorCounted e old new → IsRead order old new key (Err e)
not_read order e old new key h counted = record { found = tt; there = tt; refused = open_refused order e old new h counted }

-- nothing was written
none_written : (before after : Option (List ℕ)) → after ≡ before → Appends before after []
none_written before after same = subst (λ w. Appends before w []) (sym same) (appends_none before)

pub scans_none : (order : Order) (e : DbError) (old new : Facts) (choice : Choice) (before after : Option (List ℕ)) (status : ℕ) → RefusesReader order e old new → IsErrorCounted e old new → after ≡ before → status ≡ 1
    → Scans order old new choice before after status
scans_none order e old new choice before after status h counted written is = record {
  came = [];
  answer = Err e;
  told = λ f m means. inl refl;
  there = tt;
  refused = scan_refused order e old new (open_refused order e old new h counted);
  written = none_written before after written;
  ended = is;
}

-- ---- results

pub tells_so : {S K E : Type 0} (r : Result ℕ E) (order : Order) (facts : S → Facts) (choice : Choice) (old new : Reader S K) (before between after : Option (List ℕ)) (text rest : List ℕ) (answer : Result (Unit {0}) DbError)
    → text ≡ [] → PrintsMap order choice facts old new before between text rest answer → OnOk r (Appends between after rest) → IfOk r (λ status. status ≡ end_status answer) → IfOk r (TellsMap order choice facts old new before after)
tells_so (Ok status) order facts choice old new before between after text rest answer empty p written is = tells_map order facts choice old new before between after text rest answer status empty p written is
tells_so (Err e) order facts choice old new before between after text rest answer empty p written is = tt
