-- A power loss leaves no more where something of a file is synced than where nothing is.
use Rattle.std.proofs.Common.{◌≡◌, inl, inr, ℕ, List, [], ◌∷◌, Option, Some, None, length, take, drop, refl, sym, ap, subst, ◌∙◌, arith}
use Rattle.std.proofs.lemmas.List.{drop_all, take_all}
use Rattle.std.specs.FinMap.{get}
use Rattle.std.specs.Option.{option_map_or}
use Rattle.directory_writes.proofs.StoreCalls.{with_other}
use Rattle.opening.proofs.LosingEdits.{same_or_not, with_same}
use Rattle.store.proofs.LosingOn.{lost_here}
use Rattle.store.specs.Files.{Call, Disk, Facts, Files, Synced, disk_of, with_synced}
use Rattle.store.specs.Losses.{IsLost, IsLostSince, Lost, LosesOnly, behind_sync, disk_before, held_last, name_behind}
use Rattle.store.specs.Stops.{moment}

module _ (now : Disk) (fewer : Synced) (less : (q bytes : List ℕ) → fewer q ≡ Some bytes → now.synced q ≡ Some bytes) where
  -- the files as they are, of which less is synced
  abbrev then : Disk
  then = record { files = now.files; synced = fewer }

  abbrev Held : Type 0
  Held = Option (List ℕ) × Option (List ℕ)

  held_at : (calls : List Call) (o : Option (List ℕ)) (found : Held) → ((q : List ℕ) → (held_last calls then q).0 ≡ (held_last calls now q).0)
      → (option_map_or (held_last calls then) o found).0 ≡ (option_map_or (held_last calls now) o found).0
  held_at calls None found h = refl
  held_at calls (Some q) found h = h q

  same_held : (calls : List Call) (q : List ℕ) → (held_last calls then q).0 ≡ (held_last calls now q).0
  same_held [] q = refl
  same_held (call ∷ calls) q = held_at calls (name_behind call.change q) (get call.found.files q, call.found.synced q) (λ p. same_held calls p)

  kept_at : (calls : List Call) (o : Option (List ℕ)) (found : Held) (bytes : List ℕ) → ((q : List ℕ) → (held_last calls then q).1 ≡ Some bytes → (held_last calls now q).1 ≡ Some bytes)
      → (option_map_or (held_last calls then) o found).1 ≡ Some bytes → (option_map_or (held_last calls now) o found).1 ≡ Some bytes
  kept_at calls None found bytes h is = is
  kept_at calls (Some q) found bytes h is = h q is

  less_kept : (calls : List Call) (q bytes : List ℕ) → (held_last calls then q).1 ≡ Some bytes → (held_last calls now q).1 ≡ Some bytes
  less_kept [] q bytes is = less q bytes is
  less_kept (call ∷ calls) q bytes is = kept_at calls (name_behind call.change q) (get call.found.files q, call.found.synced q) bytes (λ p. less_kept calls p bytes) is

  lost_then : (at lost : Files) (since : List Call) → IsLost at since now lost → IsLost at since then lost
  lost_then at lost since h = record {
    names = h.names;
    beginning = λ q bytes there. let b = h.beginning q bytes there in (b.0, same_held since q ∙ b.1, b.2);
    kept = λ q bytes synced there is. h.kept q bytes synced there (less_kept since q synced is);
  }

  pub since_then : (lost : Files) (calls : List Call) → IsLostSince calls now lost → IsLostSince calls then lost
  since_then lost [] h = lost_then now.files lost [] h
  since_then lost (call ∷ calls) (inl h) = inl (lost_then call.found.files lost (call ∷ calls) h)
  since_then lost (call ∷ calls) (inr later) = inr (since_then lost calls later)

-- what a call since the last sync found, or what is there now
pub lost_now : (facts : Facts) (lost : Files) → IsLostSince (behind_sync [] facts.calls) (disk_of facts) lost → Lost facts (moment facts) lost
lost_now facts lost h =
    let n = length facts.calls in
    let front : take n facts.calls ≡ facts.calls = take_all n facts.calls (omega arith) in
    let rest : drop n facts.calls ≡ [] = drop_all n facts.calls (omega arith) in
    let A : List Call → Type 0 = λ cs. IsLostSince (behind_sync [] cs) (disk_of facts) lost in
    let B : List Call → Type 0 = λ cs. IsLostSince (behind_sync [] (take n facts.calls)) (disk_before cs (disk_of facts)) lost in
    (n, omega arith, omega arith, subst B (sym rest) (subst A (sym front) h))

-- The same store, of which nothing is synced under this name.
abbrev pub unsynced : Facts → List ℕ → Facts
unsynced facts name = record facts { synced = with_synced facts.synced name None }

pub loses_unsynced : (facts : Facts) (name : List ℕ) (P : Files → Type 0) → LosesOnly (unsynced facts name) (unsynced facts name) P → LosesOnly facts facts P
loses_unsynced facts name P h lost since =
    let less : (q bytes : List ℕ) → with_synced facts.synced name None q ≡ Some bytes → facts.synced q ≡ Some bytes = λ q bytes is. elim (same_or_not q name) [
      | inl same ↦ absurd (let bad : None ≡ Some bytes = sym (with_same facts.synced name None) ∙ ap (with_synced facts.synced name None) (sym same) ∙ is in cc)
      | inr apart ↦ sym (with_other facts.synced name q None apart) ∙ is
    ] in
    h lost (lost_now (unsynced facts name) lost (since_then (disk_of facts) (with_synced facts.synced name None) less lost (behind_sync [] facts.calls) (lost_here facts lost since)))
