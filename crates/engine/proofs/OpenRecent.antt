-- What the logs have after an open: of what is accepted since, nothing yet.
use Rattle.std.proofs.Common.{◌≡◌, ◌≢◌, ◌<◌, inl, inr, ℕ, ◌≤◌, true, false, List, [], ◌∷◌, ◌++◌, length, Some, refl, sym, ap, subst, ◌∙◌, arith}
use Rattle.std.specs.FinMap.{get, contains_key}
use Rattle.std.specs.List.{AllByRecursion}
use Rattle.edits.specs.Names.{name_of, IsNumbered}
use Rattle.edits.specs.declared.names.FileName.TheVariants.{Log}
use Rattle.ikey.proofs.SearchedSources.{among_back, among_front, among_split}
use Rattle.ikey.specs.Orders.{Order}
use Rattle.ikey.specs.Views.{Among, AllUpTo, IsView}
use Rattle.ikey.specs.declared.entry.Entry.{Entry}
use Rattle.logfile.specs.Log.{shorter}
use Rattle.logfile.specs.declared.record.Tail.TheVariants.{Clean}
use Rattle.machine.specs.Machine.{Machine, current}
use Rattle.memtables.specs.Memories.{Memories, logged_in, sealed_inserts}
use Rattle.opening.specs.internal.Directories.{CanAppend}
use Rattle.opening.specs.internal.Knowing as knowing
use Rattle.recover.proofs.Adding.{below_last}
use Rattle.recover.proofs.NewLogs.{log_there}
use Rattle.recover.proofs.OneMeaning.{same_batch_log}
use Rattle.recover.specs.Directory.{EndsAt, Directory}
use Rattle.recover.specs.Logs.{HasLog, HasLogs, InLogs, IsBatchLog, LogContent, NumbersRise, logged}
use Rattle.recover.specs.Tables.{TableContent, tabled}
use Rattle.recover.specs.internal.Changes.{empty_log}
use Rattle.store.specs.Files.{Facts, Files}
use Rattle.engine.proofs.RecentWrites.{recent_opened}
use Rattle.engine.specs.internal.Recent.{AreRecent}

-- ---- logs

last_log : (files : Files) (before : List LogContent) (last : LogContent) → HasLogs files (before ++ last ∷ []) → HasLog files last
last_log files [] last h = h.0
last_log files (content ∷ before) last h = last_log files before last h.1

in_front : (front : List LogContent) (last : LogContent) (n : ℕ) → InLogs front n → InLogs (front ++ last ∷ []) n
in_front [] last n i = absurd i
in_front (log ∷ front) last n (inl is) = inl is
in_front (log ∷ front) last n (inr i) = inr (in_front front last n i)

each_below : (least : ℕ) (logs : List LogContent) → ((n : ℕ) → InLogs logs n → n < least) → AllByRecursion (λ (log : LogContent). log.number < least) logs
each_below least [] below = tt
each_below least (log ∷ logs) below = (below log.number (inl refl), each_below least logs (λ n i. below n (inr i)))

-- no bytes are a log of no batches
no_bytes : IsBatchLog [] [] Clean
no_bytes = record { records = []; log = record { fragments = []; cut = false; begun = false; blocks = shorter (omega arith) (inl refl); joined = refl; tail_is = refl }; spelled = tt }

none_long : (bytes : List ℕ) → length bytes ≡ 0 → bytes ≡ []
none_long [] is = refl
none_long (byte ∷ bytes) is = absurd (omega (arith, is))

-- a log that ends where it begins has none
empty_at : (files : Files) (d : Directory) (number position : ℕ) (front : List LogContent) (last : LogContent) → HasLogs files d.logs → EndsAt files d number position → position ≡ 0 → d.logs ≡ front ++ last ∷ [] → last.number ≡ number → last.batches ≡ []
empty_at files d number position front last has ends none logs number_is =
    let held = last_log files front last (subst (HasLogs files) logs has) in
    let there : get files (name_of (Log number)) ≡ Some held.bytes = subst (λ (n : ℕ). get files (name_of (Log n)) ≡ Some held.bytes) number_is held.there in
    let both : Some held.bytes ≡ Some ends.bytes = sym there ∙ ends.there in
    let same : held.bytes ≡ ends.bytes = cc in
    let short : held.bytes ≡ [] = none_long held.bytes (ap length same ∙ ends.length ∙ none) in
    same_batch_log [] last (empty_log number) (subst (λ (bytes : List ℕ). IsBatchLog bytes last.batches last.tail) short held.spelled) no_bytes

-- ---- an open

module _ (order : Order) (facts : Facts) (after : Files) (log position least : ℕ) (tables : List TableContent) (memory : Memories) (m : Machine) (a : CanAppend order after log position tables (logged_in memory) memory.last) (logs : knowing.HasLogs a.directory log memory) (start : position ≡ 0)
    (used : m.used ≡ memory.last) (bounded : AllUpTo memory.last (tabled tables ++ logged_in memory)) (view : IsView (tabled tables ++ logged_in memory) m.used (current m)) (reached : m.synced ≤ length m.batches)
    (before : (n : ℕ) → IsNumbered n → n ≢ log → contains_key after (name_of (Log n)) ≡ true → n < least) where
  front_below : (n : ℕ) → InLogs logs.sealed n → n < least
  front_below n i =
      let there = log_there after a.directory.logs n a.consistent.logs (subst (λ (ls : List LogContent). InLogs ls n) (sym logs.logs) (in_front logs.sealed logs.current n i)) in
      let less : n < logs.current.number = below_last 0 logs.sealed logs.current n (subst (NumbersRise 0) logs.logs a.consistent.rising) i in
      let number = logs.number in
      before n there.0 (λ same. omega (arith, less, number, same)) there.1

  -- what is before the new log has sequence numbers that were used
  front_used : AllUpTo m.used (tabled tables ++ logged logs.sealed)
  front_used e i = subst (λ (n : ℕ). e.sequence ≤ n) (sym used) (bounded e (elim (among_split (tabled tables) (logged logs.sealed) e i) [
    | inl table ↦ among_front (tabled tables) (logged_in memory) e table
    | inr sealed ↦ among_back (tabled tables) (logged_in memory) e (among_front (sealed_inserts memory) memory.current.inserts e (subst (λ (es : List Entry). Among es e) (sym logs.sealed_are) sealed))
  ]))

  pub recent_begun : AreRecent facts least tables (tabled tables ++ logged_in memory) a.directory.logs m
  recent_begun =
      subst (λ (ls : List LogContent). AreRecent facts least tables (tabled tables ++ logged_in memory) ls m) (sym logs.logs)
      (recent_opened facts least tables (tabled tables ++ logged_in memory) logs.sealed logs.current m (each_below least logs.sealed front_below)
      (empty_at after a.directory log position logs.sealed logs.current a.consistent.logs a.ends start logs.logs logs.number) front_used view reached)
