-- What a write leaves of what is synced.
use Rattle.std.proofs.Common.{Bool, true, false, ◌≡◌, ℕ, List, [], Result, Ok, IsTrue, OnOk, is_err, sym, ap, ◌∙◌}
use Rattle.std.specs.FinMap.{get}
use Rattle.store.specs.Files.{Facts, Files, Synced, with_synced}
use Rattle.store.specs.Calls.{KeepsSynced}
use Rattle.store.specs.declared.error.StoreError.{StoreError}
use Rattle.engine.specs.Touching.{SyncsLog}
use Rattle.opening.proofs.Syncing.{only_both, only_same, only_with, with_same, done_of}

pub log_synced : {E : Type 0} (sync : Bool) (old mid new : Facts) (name : List ℕ) (r : Result (Unit {0}) StoreError) → sync ≡ true → is_err r ≡ false → (IsTrue new.faithful → IsTrue mid.faithful) → KeepsSynced old mid
    → (IsTrue new.faithful → OnOk r (new.synced ≡ with_synced mid.synced name (get mid.files name))) → (IsTrue new.faithful → new.files ≡ mid.files) → new.locked ≡ old.locked
    → SyncsLog {T = Unit {0}} {E = E} (Unit {0}) (sync ≡ true) sync name [] old new (Ok tt)
log_synced sync old mid new name r asked went back kept synced same held = record {
  kept = λ f q. ap (λ (s : Synced). s name) (done_of r went (synced f)) ∙ with_same mid.synced name (get mid.files name) ∙ ap (λ (fs : Files). get fs name) (sym (same f));
  front_kept = λ f some apart. tt;
  others = λ f q apart none. only_both old.synced mid.synced new.synced name (only_same old.synced mid.synced name (kept (back f))) (only_with mid.synced new.synced name (get mid.files name) (done_of r went (synced f))) q apart;
  unasked = λ f no q none. (let clash : true ≡ false = sym asked ∙ no in absurd (cc));
  refused = λ f. tt;
  locked = held;
}
