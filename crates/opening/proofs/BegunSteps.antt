-- An open up to where its database is made, step by step.
use Rattle.std.proofs.Common.{◌≡◌, ℕ, ◌+◌, ◌<◌, List, [], ◌∷◌, ◌++◌, map, Option, None, Result, Ok, IsTrue, inl, inr, refl, sym, ap, subst, ◌∙◌, arith, append-nil}
use Rattle.std.specs.Option.{option_and_then}
use Rattle.coding.specs.declared.error.DbError.{DbError}
use Rattle.store.specs.Files.{Facts, Files}
use Rattle.store.specs.Stops.{LeavesOnly}
use Rattle.store.proofs.Stopping.{leaves_both, leaves_same, leaves_so}
use Rattle.ikey.specs.Orders.{Order}
use Rattle.ikey.specs.declared.entry.Entry.{Entry}
use Rattle.edits.specs.Layout.{fields_of}
use Rattle.edits.specs.Names.{name_of}
use Rattle.edits.specs.declared.field.PlacedTable.{PlacedTable}
use Rattle.edits.specs.declared.layout.Layout.{Layout}
use Rattle.edits.specs.declared.names.FileName.TheVariants.{Manifest}
use Rattle.memtables.specs.Memories.{Memories, inserts_of, logged_in, older_at, sealed_inserts}
use Rattle.recover.specs.internal.Changes.{RecoveredLaw, ManifestEndsAt, empty_log}
use Rattle.recover.specs.Directory.{EndsAt}
use Rattle.recover.specs.Logs.{AreLive, LogContent, NumbersRise}
use Rattle.recover.specs.Numbers.{IsFree}
use Rattle.recover.specs.Tables.{TableContent}
use Rattle.versions.specs.Levels.{ListsSameTables}
use Rattle.machine.specs.declared.command.Mode.{Mode}
use Rattle.opening.specs.declared.directory.DirectoryState.{DirectoryState}
use Rattle.opening.specs.declared.finding.Found.{Found}
use Rattle.opening.specs.declared.beginning.Begun.{Begun}
use Rattle.opening.specs.internal.Begun.{HasBegun, Begins}
use Rattle.opening.specs.Looking.{IsSealedOf}
use Rattle.opening.specs.internal.Directories.{IsDirectoryOf}
use Rattle.opening.specs.internal.Knowing.{HasLogs, KnowsDirectory}
use Rattle.opening.specs.internal.Opening.{Finds, AllowsFiles, KeepsLogs, IsKnownAfter, HasRewritten, IsContinued, IsReady, Rewrites}
use Rattle.opening.proofs.FoundSteps.{parts_found}
use Rattle.opening.proofs.Reopening.{no_current, all_names_more}

-- ---- what is left

free_more : (order : Order) (files : Files) (m : ℕ) → IsFree order files m → IsFree order files (m + 2)
free_more order files m free = record {
  some = omega (arith, free.some);
  listed = λ file is there. (let below = free.listed file is there in omega (arith, below));
  recorded = λ number edits layout has.
      let r = free.recorded number edits layout has in
      (omega (arith, r.0), omega (arith, r.1), omega (arith, r.2), all_names_more m (fields_of edits) r.3);
}

pub continued_itself : (order : Order) (files : Files) → IsContinued order files files
continued_itself order files = record {
  meaning = λ tables entries used of. of;
  made = λ there. there;
  free = free_more order files;
  limits = λ tables entries used of within. within;
}

-- where nothing was written
pub continued_same : (order : Order) (old new : Files) → new ≡ old → IsContinued order old new
continued_same order old new same = subst (λ (fs : Files). IsContinued order old fs) (sym same) (continued_itself order old)

pub unwritten_stops : (order : Order) (old mid : Facts) → mid.calls ≡ old.calls → mid.files ≡ old.files → LeavesOnly old mid (IsContinued order old.files)
unwritten_stops order old mid calls same = leaves_same old mid (IsContinued order old.files) calls same (continued_itself order old.files)

pub behind_stops : (order : Order) (old mid new : Facts) (found : Found) → mid.calls ≡ old.calls → mid.files ≡ old.files → Finds order old.files found
    → (Finds order mid.files found → LeavesOnly mid new (IsContinued order mid.files)) → LeavesOnly old new (IsContinued order old.files)
behind_stops order old mid new found calls same finds wrote =
    leaves_both old mid new (IsContinued order old.files) (unwritten_stops order old mid calls same)
    (leaves_so mid new (IsContinued order mid.files) (IsContinued order old.files) (λ files continued. subst (λ (fs : Files). IsContinued order fs files) same continued)
    (wrote (subst (λ (fs : Files). Finds order fs found) (sym same) finds)))

-- after what was read
pub continued_behind : {T : Type 0} (order : Order) (old mid new : Facts) (found : Found) (end : ℕ) (r : Result T DbError) → (IsTrue mid.faithful → mid.files ≡ old.files) → (IsTrue mid.faithful → Finds order old.files found)
    → Rewrites order mid new found end r → IsTrue new.faithful → IsContinued order old.files new.files
continued_behind order old mid new found end r same finds w f =
    let g = w.call.faithful f in
    let there : Finds order mid.files found = subst (λ (fs : Files). Finds order fs found) (sym (same g)) (finds g) in
    subst (λ (fs : Files). IsContinued order fs new.files) (same g) (w.continued f there)

-- ---- what is in memory

-- What a directory says is what was found.
found_says : (order : Order) (files : Files) (found : Found) → RecoveredLaw → Finds order files found → (tables : List TableContent) (entries : List Entry) (used : ℕ) → IsDirectoryOf order files tables entries used
    → (map (λ (content : TableContent). content.placed) tables ≡ found.layout.tables.items) × (entries ≡ found.entries.items) × (used ≡ found.used)
found_says order files found law h tables entries used (inl none) = elim h.what [
  | inl first ↦ (ap (λ (ts : List TableContent). map (λ (content : TableContent). content.placed) ts) none.1 ∙ sym first.1, none.2 ∙ sym first.2, none.3 ∙ sym first.3)
  | inr some ↦ absurd (no_current files _ none.0 some.read.manifest.current)
]
found_says order files found law h tables entries used (inr there) = elim h.what [
  | inl first ↦ absurd (no_current files _ first.0 there.1.manifest.current)
  | inr some ↦
      let parts = parts_found order files found there.0 law some there.1 in (
        ap (λ (ts : List TableContent). map (λ (content : TableContent). content.placed) ts) there.2 ∙ there.1.placed ∙ parts.0.tables,
        there.3 ∙ parts.1,
        there.4 ∙ parts.2,
      )
]

-- ---- the memory

-- as the directory says it
sealed_says : (memory : Memories) (found others : List Entry) (a b : ℕ) → others ≡ found → b ≡ a → IsSealedOf memory found a → IsSealedOf memory others b
sealed_says memory found others a b entries used s = record {
  sealed = s.sealed ∙ sym entries;
  unsealed = λ none. s.unsealed (sym entries ∙ none);
  current = s.current;
  last = s.last ∙ sym used;
}

pub sealed_logged : (memory : Memories) (entries : List Entry) (used : ℕ) → IsSealedOf memory entries used → logged_in memory ≡ entries
sealed_logged memory entries used s = let front = s.sealed in let back = s.current in (λ i. front i ++ back i) ∙ append-nil entries

-- ---- logs before the last one

rise_to : (low : ℕ) (before : List LogContent) (last : LogContent) → NumbersRise low (before ++ last ∷ []) → low < last.number
rise_to low [] last h = h.0
rise_to low (content ∷ before) last h = let first = h.0 in let later = rise_to content.number before last h.1 in omega (arith, first, later)

-- there are none where it is the first that is in use
none_in_front : (layout : Layout) (low : ℕ) (before : List LogContent) (last : LogContent) → layout.log_number ≡ last.number → layout.previous_log_number ≡ 0 → AreLive layout (before ++ last ∷ []) → NumbersRise low (before ++ last ∷ []) → before ≡ []
none_in_front layout low [] last log previous live rise = refl
none_in_front layout low (content ∷ before) last log previous live rise = absurd (elim live.0 [
  | inl le ↦ (let less = rise_to content.number before last rise.1 in omega (arith, le, log, less))
  | inr one ↦ (let is = one.0 in let some = one.1 in omega (arith, is, some, previous))
])

-- ---- what is known of the directory

-- both say which logs are in use, and so the same
same_logs : (found : Found) (a b c d : ℕ) → KeepsLogs found a b → KeepsLogs found c d → (a ≡ c) × (b ≡ d)
same_logs found a b c d (inl k) (inl l) = (k.1 ∙ sym l.1, k.2 ∙ sym l.2)
same_logs found a b c d (inr k) (inr l) = (k.1 ∙ sym l.1, k.2 ∙ sym l.2)
same_logs found a b c d (inl k) (inr l) = absurd (k.0 l.0)
same_logs found a b c d (inr k) (inl l) = absurd (l.0 k.0)

module _ (order : Order) (files : Files) (found : Found) (end : ℕ) (tables : List TableContent) (entries : List Entry) (used : ℕ) (r : HasRewritten order files found end tables entries used) where
  -- where nothing was found, the new log is the first that is in use
  none_before : (memory : Memories) → IsSealedOf memory entries used → entries ≡ found.entries.items → memory.sealed ≡ None → r.before ≡ []
  none_before memory s says none =
      let nothing : sealed_inserts memory ≡ [] = ap (λ (o : Option ℕ). inserts_of (option_and_then (older_at memory.older) o)) none in
      let layout = r.log.directory.layout in
      let L : List LogContent → Type 0 = λ logs. AreLive layout logs in
      let N : List LogContent → Type 0 = λ logs. NumbersRise 0 logs in
      elim r.live [
        | inl some ↦ absurd (some.0 (sym says ∙ sym s.sealed ∙ nothing))
        | inr first ↦ none_in_front layout 0 r.before (empty_log (found.number + 1)) first.1 first.2 (subst L r.logs r.log.consistent.live) (subst N r.logs r.log.consistent.rising)
      ]

  -- what was found is sealed, and nothing else is in memory
  logs_begun : (memory : Memories) → IsSealedOf memory entries used → entries ≡ found.entries.items → HasLogs r.log.directory (found.number + 1) memory
  logs_begun memory s says = record {
    sealed = r.before;
    current = empty_log (found.number + 1);
    logs = r.logs;
    number = refl;
    sealed_are = s.sealed ∙ r.in_front;
    current_are = s.current;
    front = none_before memory s says;
    some = λ none. s.unsealed (sym s.sealed ∙ none);
  }

  known_begun : (name : List ℕ) (state : DirectoryState) → name ≡ name_of (Manifest found.number) → IsKnownAfter found name end state → IsFree order files (found.number + 2)
      → KnowsDirectory order files r.log.directory (found.number + 1) state
  known_begun name state is k free =
      let d = r.log.directory in
      let logs = same_logs found d.layout.log_number d.layout.previous_log_number state.first_log state.previous_log r.live k.logs in
      record {
        first_log = logs.0;
        forward = (let forward = r.forward in omega (arith, forward, logs.0));
        previous_log = logs.1;
        number = k.number ∙ sym r.number;
        named = k.named ∙ is ∙ ap (λ (n : ℕ). name_of (Manifest n)) (sym r.number);
        ends = subst (λ (n : ℕ). ManifestEndsAt order files d.manifest n d.edits d.layout) (sym k.ends) r.manifest;
        free = subst (λ (n : ℕ). IsFree order files n) (sym k.next) free;
      }

-- what an open has where its directory was rewritten
pub record IsMadeOf {K : Type 0} (found : Found) (name : List ℕ) (end : ℕ) (begun : Begun K) : Type 0 where
  pub memory : IsSealedOf begun.memory found.entries.items found.used
  pub lists : ListsSameTables found.layout.tables.items begun.version.value.tables
  pub number : begun.log.number ≡ found.number + 1
  pub empty : begun.log.end ≡ 0
  pub named : name ≡ name_of (Manifest found.number)
  pub known : IsKnownAfter found name end begun.directory

begun_has : {K : Type 0} (order : Order) (files : Files) (found : Found) (end : ℕ) (tables : List TableContent) (entries : List Entry) (used : ℕ) → HasRewritten order files found end tables entries used
    → (name : List ℕ) (begun : Begun K) → IsSealedOf begun.memory entries used → ListsSameTables (map (λ (content : TableContent). content.placed) tables) begun.version.value.tables
    → IsMadeOf found name end begun → IsFree order files (found.number + 2) → HasBegun order files begun tables entries used
begun_has order files found end tables entries used r name begun memory lists made free =
    let d = r.log.directory in
    let log = begun.log.number in
    let N : ℕ → Type 0 = λ n. EndsAt files d n begun.log.end in
    let E : ℕ → Type 0 = λ n. EndsAt files d (found.number + 1) n in
    record {
      inserts = sealed_logged begun.memory entries used memory;
      last = memory.last;
      version = lists;
      log = record {
        directory = d;
        consistent = r.log.consistent;
        ends = subst N (sym made.number) (subst E (sym made.empty) r.log.ends);
        in_tables = r.log.in_tables;
        in_logs = r.log.in_logs;
        spent = r.log.spent;
      };
      logs = subst (λ (n : ℕ). HasLogs d n begun.memory) (sym made.number) (logs_begun order files found end tables entries used r begun.memory memory (sym memory.sealed ∙ made.memory.sealed));
      knows = subst (λ (n : ℕ). KnowsDirectory order files d n begun.directory) (sym made.number)
          (known_begun order files found end tables entries used r name begun.directory made.named made.known free);
    }

pub begins : {K : Type 0} (order : Order) (mode : Mode) (old mid new : Facts) (found : Found) (name : List ℕ) (end : ℕ) (begun : Begun K) → RecoveredLaw → (IsTrue mid.faithful → mid.files ≡ old.files) → (IsTrue mid.faithful → Finds order old.files found)
    → (IsTrue mid.faithful → AllowsFiles mode old.files) → Rewrites {T = Unit {0}} order mid new found end (Ok tt) → IsMadeOf found name end begun → IsTrue new.faithful → Begins order mode old.files new.files begun
begins order mode old mid new found name end begun law same finds allowed w made f =
    let g = w.call.faithful f in
    let there : Finds order mid.files found = subst (λ (fs : Files). Finds order fs found) (sym (same g)) (finds g) in
    let ready : IsReady order old.files new.files found end = subst (λ (fs : Files). IsReady order fs new.files found end) (same g) (w.ok f there) in
    record {
      allowed = allowed g;
      made = ready.made;
      has = λ tables entries used of.
          let says = found_says order old.files found law (finds g) tables entries used of in
          let r = ready.ends tables entries used of in
          let memory = sealed_says begun.memory found.entries.items entries found.used used says.1 says.2 made.memory in
          begun_has order new.files found end tables entries used r name begun memory
          (subst (λ (ts : List PlacedTable). ListsSameTables ts begun.version.value.tables) (sym says.0) made.lists) made ready.free;
      least = λ n free. (let low = (finds g).number.1 n free in let next = made.known.next in omega (arith, low, next));
    }
