-- A directory that reads the same is the same.
use Rattle.std.proofs.Common.{◌≡◌, inl, inr, ℕ, true, List, [], ◌∷◌, Option, Some, None, is_some, refl, sym, ap, subst, ◌∙◌}
use Rattle.std.specs.FinMap.{get, contains_key}
use Rattle.std.specs.Option.{option_or}
use Rattle.logfile.specs.Log.{IsLog}
use Rattle.logfile.specs.declared.record.Tail.{Tail}
use Rattle.logfile.proofs.LogLaws.{same_log}
use Rattle.edits.specs.Names.{name_of, IsNumbered}
use Rattle.edits.specs.declared.layout.Layout.{Layout}
use Rattle.edits.specs.declared.names.FileName.{FileName}
use Rattle.edits.specs.declared.names.FileName.TheVariants.{Current, Log, Manifest, OldTable, Table}
use Rattle.ikey.specs.Orders.{Order}
use Rattle.recover.specs.Directory.{Directory, IsConsistent}
use Rattle.recover.specs.Logs.{HasLog, HasLogs, InLogs, LogContent}
use Rattle.recover.specs.Tables.{HasTable, HasTables, InTables, TableContent, table_at}
use Rattle.store.specs.Files.{Files}
use Rattle.mending.specs.Mending.{IsLogged}
use Rattle.mending.proofs.AppliedCuts.{apart_from}
use Rattle.mending.proofs.Leaving.{lock_apart, mine_logged}
use Rattle.mended_losses.specs.Consistent.{ConsistentLaw, Covers}
use Rattle.mended_losses.specs.Reading.{HasFile, HasName, ReadsAs}

some_of : (o : Option (List ℕ)) → is_some o ≡ true → (x : List ℕ) × (o ≡ Some x)
some_of None e = absurd (cc)
some_of (Some x) e = (x, refl)

-- the one with the older name is read if the other isn't there
pub same_table : (a b c d : Option (List ℕ)) → a ≡ c → (c ≡ None → b ≡ d) → option_or a b ≡ option_or c d
same_table a b None d e f = λ i. option_or (e i) (f refl i)
same_table a b (Some x) d e f = ap (λ (o : Option (List ℕ)). option_or o b) e

module _ (order : Order) (mended plain : Files) (number : ℕ) (layout : Layout) (logs : List FileName) (others : List (List ℕ)) (numbered : IsNumbered number) (r : ReadsAs number layout logs others mended plain) where
  -- a log or a MANIFEST is there in both, or in none
  both_there : (file : FileName) → IsLogged file → contains_key mended (name_of file) ≡ contains_key plain (name_of file)
  both_there file logged = r.names (name_of file) (lock_apart file logged) (λ other mine e. apart_from file other logged (mine_logged number layout other numbered mine) e)

  -- and has the same records
  found : (file : FileName) (bytes : List ℕ) (records : List (List ℕ)) (tail : Tail) → IsLogged file → HasFile logs file → get plain (name_of file) ≡ Some bytes → IsLog bytes records tail
      → (x : List ℕ) × (get mended (name_of file) ≡ Some x) × IsLog x records tail
  found file bytes records tail logged among there log =
      let x = some_of (get mended (name_of file)) (both_there file logged ∙ ap is_some there) in
      let both = r.read file x.0 bytes among x.1 there in
      let same = same_log bytes both.0 records both.1 tail both.3 log in
      (x.0, x.1, subst (λ (t : Tail). IsLog x.0 records t) same.1 (subst (λ (rs : List (List ℕ)). IsLog x.0 rs both.1) same.0 both.2))

  one_log : (content : LogContent) → HasFile logs (Log content.number) → HasLog plain content → HasLog mended content
  one_log content among h =
      let x = found (Log content.number) h.bytes h.spelled.records content.tail h.numbered among h.there h.spelled.log in
      record { bytes = x.0; numbered = h.numbered; there = x.1; spelled = record { records = h.spelled.records; log = x.2; spelled = h.spelled.spelled } }

  each_log : (contents : List LogContent) → ((n : ℕ) → InLogs contents n → HasFile logs (Log n)) → HasLogs plain contents → HasLogs mended contents
  each_log [] among h = tt
  each_log (content ∷ contents) among h = (one_log content (among content.number (inl refl)) h.0, each_log contents (λ n later. among n (inr later)) h.1)

  abbrev AreAmong : TableContent → Type 0
  AreAmong content = HasName others (name_of (Table content.placed.table.number)) × (get plain (name_of (Table content.placed.table.number)) ≡ None → HasName others (name_of (OldTable content.placed.table.number)))

  one_table : (content : TableContent) → AreAmong content → HasTable order plain content → HasTable order mended content
  one_table content among h =
      let n = content.placed.table.number in
      let same : table_at mended n ≡ table_at plain n =
      same_table (get mended (name_of (Table n))) (get mended (name_of (OldTable n))) (get plain (name_of (Table n))) (get plain (name_of (OldTable n))) (r.same (name_of (Table n)) among.0) (λ none. r.same (name_of (OldTable n)) (among.1 none)) in
      record {
        numbered = h.numbered;
        bytes = h.bytes;
        there = same ∙ h.there;
        size = h.size;
        spelled = h.spelled;
        sorted = h.sorted;
        smallest = h.smallest;
        largest = h.largest;
      }

  each_table : (contents : List TableContent) → ((content : TableContent) → InTables contents content → AreAmong content)
      → HasTables order plain contents → HasTables order mended contents
  each_table [] among h = tt
  each_table (content ∷ contents) among h = (one_table content (among content (inl refl)) h.0, each_table contents (λ other later. among other (inr later)) h.1)

  pub consistent_there : (d : Directory) → Covers plain d logs others → IsConsistent order plain d → IsConsistent order mended d
  consistent_there d c h =
      let m = h.manifest in
      let x = found (Manifest d.manifest) m.bytes m.spelled.records m.spelled.tail m.numbered c.manifest m.there m.spelled.log in
      record {
        manifest = record {
          numbered = m.numbered;
          current = r.same (name_of Current) c.current ∙ m.current;
          bytes = x.0;
          there = x.1;
          spelled = record { records = m.spelled.records; tail = m.spelled.tail; log = x.2; spelled = m.spelled.spelled; folded = m.spelled.folded };
        };
        tables = each_table d.tables c.tables h.tables;
        placed = h.placed;
        logs = each_log d.logs c.each h.logs;
        live = h.live;
        rising = h.rising;
        all = λ n is live there. h.all n is live (sym (both_there (Log n) is) ∙ there);
        apart = h.apart;
        newer = h.newer;
        sequences = h.sequences;
        recorded = h.recorded;
      }

pub consistent_again : ConsistentLaw
consistent_again order mended plain number layout logs others d numbered r c h = consistent_there order mended plain number layout logs others numbered r d c h
