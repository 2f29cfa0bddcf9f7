-- What a power loss leaves of a directory that the calls since the last sync spared.
use Rattle.std.proofs.Common.{◌≡◌, ◌⊎◌, inl, inr, ℕ, true, false, List, [], ◌∷◌, Option, Some, None, is_some, refl, sym, ap, ◌∙◌}
use Rattle.std.specs.FinMap.{get, contains_key}
use Rattle.std.specs.Option.{option_map_or}
use Rattle.store.specs.Files.{Facts, Files, Disk, Call, disk_of}
use Rattle.store.specs.Losses.{BeginsWith, HasStayed, HasStayedOrBegun, IsCarriedBy, IsLost, IsLostSince, behind_sync, held_last}
use Rattle.store.proofs.LosingOn.{lost_here}
use Rattle.recover.specs.Directory.{Directory}
use Rattle.opening.specs.Losses.{IsLeftOf, IsLogIn, IsReadIn, SparedLaw}

-- what goes on under its name holds now what it held last
held_carried : (calls : List Call) (now : Disk) (q : List ℕ) → IsCarriedBy calls q → held_last calls now q ≡ (get now.files q, now.synced q)
held_carried [] now q h = refl
held_carried (call ∷ calls) now q h =
    let step : held_last (call ∷ calls) now q ≡ held_last calls now q = ap (λ (o : Option (List ℕ)). option_map_or (held_last calls now) o (get call.found.files q, call.found.synced q)) h.0 in
    step ∙ held_carried calls now q h.1

-- what a loss leaves of such a file
pub record IsBegun (facts : Facts) (lost : Files) (q : List ℕ) : Type 0 where
  pub beginning : (bytes : List ℕ) → get lost q ≡ Some bytes → (held : List ℕ) × (get facts.files q ≡ Some held) × BeginsWith held bytes
  pub kept : (bytes synced : List ℕ) → get lost q ≡ Some bytes → facts.synced q ≡ Some synced → BeginsWith bytes synced

carried : (facts : Facts) (at : Files) (calls : List Call) (lost : Files) (q : List ℕ) → IsCarriedBy calls q → IsLost at calls (disk_of facts) lost → IsBegun facts lost q
carried facts at calls lost q c h =
    let e = held_carried calls (disk_of facts) q c in
    record {
      beginning = λ bytes there. let b = h.beginning q bytes there in (b.0, sym (ap (λ (p : Option (List ℕ) × Option (List ℕ)). p.0) e) ∙ b.1, b.2);
      kept = λ bytes synced there is. h.kept q bytes synced there (ap (λ (p : Option (List ℕ) × Option (List ℕ)). p.1) e ∙ is);
    }

missing : (facts : Facts) (lost : Files) (q : List ℕ) → contains_key lost q ≡ false → IsBegun facts lost q
missing facts lost q none = record {
  beginning = λ bytes there. absurd (let bad : false ≡ true = sym none ∙ ap is_some there in cc);
  kept = λ bytes synced there is. absurd (let bad : false ≡ true = sym none ∙ ap is_some there in cc);
}

-- one name, of a file that is read, and of a log
pub record ReadsLeft (facts : Facts) (lost : Files) (q : List ℕ) : Type 0 where
  pub name : contains_key lost q ≡ contains_key facts.files q
  pub begun : IsBegun facts lost q

record LogLeft (facts : Facts) (lost : Files) (q : List ℕ) : Type 0 where
  name : (contains_key lost q ≡ contains_key facts.files q) ⊎ ((contains_key lost q ≡ false) × (facts.synced q ≡ None))
  begun : IsBegun facts lost q

left_by : (facts : Facts) (d : Directory) (lost : Files) → ((q : List ℕ) → IsReadIn facts.files d q → ReadsLeft facts lost q) → ((q : List ℕ) → IsLogIn d q → LogLeft facts lost q) → IsLeftOf facts d lost
left_by facts d lost reads logs = record {
  names = λ q read. (reads q read).name;
  logs = λ q log. (logs q log).name;
  beginning = λ q bytes mine there. elim mine [ inl read ↦ (reads q read).begun.beginning bytes there | inr log ↦ (logs q log).begun.beginning bytes there ];
  kept = λ q bytes synced mine there is. elim mine [ inl read ↦ (reads q read).begun.kept bytes synced there is | inr log ↦ (logs q log).begun.kept bytes synced there is ];
}

pub now_left : (facts : Facts) (lost : Files) (q : List ℕ) → IsLost facts.files [] (disk_of facts) lost → ReadsLeft facts lost q
now_left facts lost q h = record { name = h.names q; begun = carried facts facts.files [] lost q tt h }

-- one of the moments since
pub reads_left : (facts : Facts) (lost : Files) (q : List ℕ) (calls : List Call) → HasStayed calls (contains_key facts.files q) q → IsLostSince calls (disk_of facts) lost → ReadsLeft facts lost q
reads_left facts lost q [] s h = now_left facts lost q h
reads_left facts lost q (call ∷ calls) s (inr later) = reads_left facts lost q calls s.1 later
reads_left facts lost q (call ∷ calls) s (inl h) = record { name = h.names q ∙ s.0.1; begun = carried facts call.found.files (call ∷ calls) lost q s.0.0 h }

log_left : (facts : Facts) (lost : Files) (q : List ℕ) (calls : List Call) → HasStayedOrBegun calls (contains_key facts.files q) (facts.synced q) q → IsLostSince calls (disk_of facts) lost → LogLeft facts lost q
log_left facts lost q [] s h = let r = now_left facts lost q h in record { name = inl r.name; begun = r.begun }
log_left facts lost q (call ∷ calls) s (inr later) = log_left facts lost q calls s.1 later
log_left facts lost q (call ∷ calls) s (inl h) = elim s.0 [
  | inl c ↦ record { name = inl (h.names q ∙ c.1); begun = carried facts call.found.files (call ∷ calls) lost q c.0 h }
  | inr gone ↦ let none : contains_key lost q ≡ false = h.names q ∙ gone.0 in record { name = inr (none, gone.1); begun = missing facts lost q none }
]

pub left_by_loss : SparedLaw
left_by_loss facts d lost s h =
    let since = behind_sync [] facts.calls in
    let one = lost_here facts lost h in
    left_by facts d lost (λ q read. reads_left facts lost q since (s.reads q read) one) (λ q log. log_left facts lost q since (s.logs q log) one)
