-- What a power loss leaves of a directory while bytes are put after one of its logs, and while a
-- log is synced.
use Rattle.std.proofs.Common.{◌≡◌, ◌≢◌, ◌⊎◌, inl, inr, ℕ, List, ◌++◌, take, sym, ap, subst, ◌∙◌}
use Rattle.std.specs.FinMap.{get}
use Rattle.store.specs.Calls.{Adds, Idles}
use Rattle.store.specs.Files.{Addition, Disk, Facts, Files, Sync, Synced}
use Rattle.store.specs.Losses.{LosesOnly}
use Rattle.store.proofs.Carrying.{carries_begun}
use Rattle.ikey.specs.Orders.{Order}
use Rattle.recover.specs.Directory.{Directory, IsConsistent}
use Rattle.recover.specs.Logs.{LogContent}
use Rattle.recover.proofs.NamedFiles.{get_other}
use Rattle.directory_writes.proofs.StoreCalls.{behind_added}
use Rattle.opening.specs.Losses.{AreSpared, CutLaw, IsReadIn, SparedLaw}
use Rattle.opening.specs.internal.Cuts.{AreLeft, IsLeftCut}
use Rattle.opening.proofs.LosingEdits.{spared_behind, spared_on}
use Rattle.opening.proofs.LosingWrites.{SameRead, left_at, left_cut}

-- over other logs nothing of what is read beside them changes
spared_logs : (facts : Facts) (d : Directory) (logs : List LogContent) → AreSpared facts d → AreSpared facts (record d { logs = logs })
spared_logs facts d logs s = record { reads = s.reads; logs = s.logs }

left_logs : (facts : Facts) (lost : Files) (d : Directory) (logs : List LogContent) → AreLeft facts d lost → AreLeft facts (record d { logs = logs }) lost
left_logs facts lost d logs k = record { current = k.current; manifest = k.manifest; tables = k.tables }

-- Each loss until the next call, where the directory has these logs by now, and all else that it
-- reads is as it was.
pub logs_lose : SparedLaw → CutLaw → (order : Order) (old then : Facts) (d : Directory) (logs : List LogContent) → SameRead old then d → IsConsistent order then.files (record d { logs = logs }) → AreSpared then d
    → LosesOnly then then (λ lost. AreLeft old d lost → IsLeftCut order then (record d { logs = logs }) lost)
logs_lose spared cut order old then d logs same good spares lost since kept =
    left_cut spared cut order then (record d { logs = logs }) good (spared_logs then d logs spares) lost since (left_logs then lost d logs (left_at old then lost d same kept))

-- ---- after an append

other_files : (old new : Facts) (name bytes q : List ℕ) → q ≢ name → Idles old new ⊎ ((n : ℕ) × Adds old new (Addition name (take n bytes))) → get new.files q ≡ get old.files q
other_files old new name bytes q apart (inl idle) = ap (λ (disk : Disk). get disk.files q) idle.1
other_files old new name bytes q apart (inr some) =
    let done = some.1.1 in
    ap (λ (fs : Files). get fs q) done.2 ∙ get_other old.files name (done.0 ++ take some.0 bytes) q apart

-- with the record that was put there, or a beginning of it: whatever the logs are then
pub append_loses : SparedLaw → CutLaw → (order : Order) (old new : Facts) (d : Directory) (logs : List LogContent) (name bytes : List ℕ) → Idles old new ⊎ ((n : ℕ) × Adds old new (Addition name (take n bytes))) → new.synced ≡ old.synced
    → ((q : List ℕ) → IsReadIn old.files d q → q ≢ name) → IsConsistent order new.files (record d { logs = logs }) → AreSpared old d
    → LosesOnly new new (λ lost. AreLeft old d lost → IsLeftCut order new (record d { logs = logs }) lost)
append_loses spared cut order old new d logs name bytes noted synced apart good spares =
    logs_lose spared cut order old new d logs
    (record { files = λ q read. other_files old new name bytes q (apart q read) noted; synced = λ q read. ap (λ (s : Synced). s q) synced })
    good (spared_on old new d (carries_begun old new name bytes (λ (p : List ℕ). ⊥) synced noted) spares)

-- ---- after a sync

-- the same directory, of which more is synced
pub sync_loses : SparedLaw → CutLaw → (order : Order) (old new : Facts) (d : Directory) (name : List ℕ) → Adds old new (Sync name) → ((q : List ℕ) → q ≢ name → new.synced q ≡ old.synced q)
    → ((q : List ℕ) → IsReadIn old.files d q → q ≢ name) → IsConsistent order old.files d
    → LosesOnly new new (λ lost. AreLeft old d lost → IsLeftCut order new d lost)
sync_loses spared cut order old new d name adds synced apart good =
    logs_lose spared cut order old new d d.logs
    (record { files = λ q read. ap (λ (fs : Files). get fs q) adds.1; synced = λ q read. synced q (apart q read) })
    (subst (λ (fs : Files). IsConsistent order fs d) (sym adds.1) good) (spared_behind new d (behind_added old new name adds))
