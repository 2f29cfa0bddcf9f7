-- What the logs that were begun have after a write.
use Rattle.std.proofs.Common.{◌≡◌, ◌<◌, ◌≤◌, ◌+◌, ℕ, Bool, true, false, if◌then◌else◌, List, [], ◌∷◌, ◌++◌, length, inl, inr, sym, ap, subst, ◌∙◌, arith, append_assoc}
use Rattle.std.specs.List.{AllByRecursion}
use Rattle.batch.specs.declared.operation.Operation.{Operation}
use Rattle.edits.specs.Names.{name_of, IsNumbered}
use Rattle.edits.specs.declared.layout.Layout.{Layout}
use Rattle.edits.specs.declared.names.FileName.TheVariants.{Log}
use Rattle.ikey.specs.Orders.{Order}
use Rattle.ikey.specs.Views.{AllUpTo}
use Rattle.ikey.specs.declared.entry.Entry.{Entry}
use Rattle.machine.specs.Machine.{Machine}
use Rattle.opening.specs.Durable.{IsSynced}
use Rattle.opening.specs.Losses.{IsKept, IsLogRead}
use Rattle.opening.specs.declared.directory.DirectoryState.{DirectoryState}
use Rattle.recover.proofs.Adding.{logs_back}
use Rattle.recover.specs.Directory.{Directory, IsConsistent}
use Rattle.recover.specs.Entries.{entries_of}
use Rattle.recover.specs.Logs.{AreLive, HasLogs, IsLive, LogContent, NumbersRise}
use Rattle.recover.specs.Tables.{TableContent, tabled}
use Rattle.recover.specs.internal.Changes.{IsExtended}
use Rattle.store.specs.Files.{Facts, Files}
use Rattle.engine.proofs.RecentSure.{SyncsLast, SyncsMore}
use Rattle.engine.proofs.RecentWrites.{recent_written}
use Rattle.engine.specs.internal.Recent.{AreRecent}

-- ---- the logs in front

rises_to : (low : ℕ) (front : List LogContent) (last : LogContent) → NumbersRise low (front ++ last ∷ []) → low < last.number
rises_to low [] last h = h.0
rises_to low (x ∷ front) last h = (let more = rises_to x.number front last h.1 in let least = h.0 in omega (arith, least, more))

pub front_kept : (facts : Facts) (files : Files) (layout : Layout) (low : ℕ) (front : List LogContent) (last : LogContent) → NumbersRise low (front ++ last ∷ []) → AreLive layout (front ++ last ∷ []) → HasLogs files (front ++ last ∷ [])
    → ((n : ℕ) → IsNumbered n → IsLive layout n → n < last.number → IsKept facts (name_of (Log n))) → AllByRecursion (λ (log : LogContent). IsKept facts (name_of (Log log.number))) front
front_kept facts files layout low [] last rising live logs kept = tt
front_kept facts files layout low (x ∷ front) last rising live logs kept =
    (kept x.number logs.0.numbered live.0 (rises_to x.number front last rising.1), front_kept facts files layout x.number front last rising.1 live.1 logs.1 kept)

pub live_read : (layout : Layout) (state : DirectoryState) (n : ℕ) → layout.log_number ≡ state.first_log → layout.previous_log_number ≡ state.previous_log → IsLive layout n → IsLogRead state n
live_read layout state n first previous (inl least) = inl (subst (λ (k : ℕ). k ≤ n) first least)
live_read layout state n first previous (inr is) = inr (is.0 ∙ previous, is.1)

-- ---- what is synced of the last one

pub syncs_extended : (sync : Bool) (old new : Facts) (name : List ℕ) (d e : Directory) (more : List Entry) (x : IsExtended d e more) → name ≡ name_of (Log x.last.number) → HasLogs new.files e.logs → SyncsLast sync old new name
    → SyncsMore sync old new x.last x.next
syncs_extended true old new name d e more x named has is =
    let logs = subst (HasLogs new.files) (ap (λ (f : Directory). f.logs) x.new) has in
    let whole = subst (IsSynced new) (named ∙ ap (λ (n : ℕ). name_of (Log n)) (sym x.number)) is in
    ((logs_back new.files x.before (x.next ∷ []) logs).0, λ bytes there. whole ∙ there)
syncs_extended false old new name d e more x named has same = subst (λ (q : List ℕ). new.synced q ≡ old.synced q) named same

-- ---- what they have

-- The logs before the last one were synced whole for it.
pub recent_behind : (sync : Bool) (order : Order) (old new : Facts) (files : Files) (state : DirectoryState) (contents : List TableContent) (inserts later : List Entry) (d e : Directory) (used : ℕ) (m n : Machine) (operations : List Operation) (x : IsExtended d e (entries_of (used + 1) operations))
    → IsConsistent order files d → d.layout.log_number ≡ state.first_log → d.layout.previous_log_number ≡ state.previous_log → AreRecent old state.manifest.number contents (tabled contents ++ inserts) d.logs m → later ≡ inserts ++ entries_of (used + 1) operations
    → x.next.batches ≡ x.last.batches ++ (used + 1, operations) ∷ [] → ((k : ℕ) → IsNumbered k → IsLogRead state k → k < x.last.number → IsKept new (name_of (Log k))) → m.used ≡ used → AllUpTo used (tabled contents ++ inserts)
    → n.base ≡ m.base → n.batches ≡ m.batches ++ operations ∷ [] → n.used ≡ m.used + length operations → n.synced ≡ (if sync then length m.batches + 1 else m.synced) → SyncsMore sync old new x.last x.next → AreRecent new state.manifest.number contents (tabled contents ++ later) e.logs n
recent_behind sync order old new files state contents inserts later d e used m n operations x consistent first previous h later_is written kept spent bounded base batches used_is reaches syncs =
    let entries = tabled contents ++ inserts in
    let front = front_kept new files d.layout 0 x.before x.last (subst (NumbersRise 0) x.old consistent.rising) (subst (AreLive d.layout) x.old consistent.live) (subst (HasLogs files) x.old consistent.logs)
    (λ k numbered live below. kept k numbered (live_read d.layout state k first previous live) below) in
    let batch : x.next.batches ≡ x.last.batches ++ (m.used + 1, operations) ∷ [] = subst (λ (u : ℕ). x.next.batches ≡ x.last.batches ++ (u + 1, operations) ∷ []) (sym spent) written in
    let behind : AreRecent new state.manifest.number contents (entries ++ entries_of (m.used + 1) operations) (x.before ++ x.next ∷ []) n =
    recent_written sync old new state.manifest.number contents entries x.before x.last x.next m n operations (subst (λ (logs : List LogContent). AreRecent old state.manifest.number contents entries logs m) x.old h) batch front base batches used_is
    (subst (λ (u : ℕ). AllUpTo u entries) (sym spent) bounded) x.number reaches syncs in
    let entries_are : entries ++ entries_of (m.used + 1) operations ≡ tabled contents ++ later =
    ap (λ (u : ℕ). entries ++ entries_of (u + 1) operations) spent ∙ append_assoc (tabled contents) inserts (entries_of (used + 1) operations) ∙ ap (λ (es : List Entry). tabled contents ++ es) (sym later_is) in
    subst (λ (logs : List LogContent). AreRecent new state.manifest.number contents (tabled contents ++ later) logs n) (sym (ap (λ (f : Directory). f.logs) x.new))
    (subst (λ (es : List Entry). AreRecent new state.manifest.number contents es (x.before ++ x.next ∷ []) n) entries_are behind)
