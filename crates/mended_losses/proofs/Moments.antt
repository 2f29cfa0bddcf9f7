-- The names and the files of a moment since the last sync.
use Rattle.std.proofs.Common.{◌≡◌, ◌⊎◌, ◌≤◌, inl, inr, ℕ, Bool, true, false, List, [], ◌∷◌, length, take, drop, Option, Some, None, is_some, refl, sym, ap, subst, ◌∙◌}
use Rattle.std.proofs.lemmas.List.{drop_all, take_all}
use Rattle.std.specs.FinMap.{get, contains_key}
use Rattle.std.specs.Option.{option_map_or}
use Rattle.store.specs.Files.{Call, Disk, Facts, Files, disk_of}
use Rattle.store.specs.Losses.{BeginsWith, HasStayed, HasStayedOrBegun, IsCarriedBy, IsLostSince, Lost, StaysNamed, StaysOrBegins, behind_sync, disk_before, held_last, name_behind}
use Rattle.store.specs.Stops.{moment}
use Rattle.mended_losses.specs.Between.{SyncsFront, SyncsFronts}
use Rattle.mended_losses.specs.Losses.{HoledLost, IsHoledLostSince, IsMoment, IsSince}

-- ---- the present moment

pub now_moment : (facts : Facts) (at : Files) (since : List Call) (now : Disk) → IsMoment facts (moment facts) at since now → (now ≡ disk_of facts) × IsSince (behind_sync [] facts.calls) (disk_of facts) at since
now_moment facts at since now h =
    let least : length facts.calls ≤ h.0 = h.1 in
    let front : take h.0 facts.calls ≡ facts.calls = take_all h.0 facts.calls least in
    let rest : drop h.0 facts.calls ≡ [] = drop_all h.0 facts.calls least in
    let same : now ≡ disk_of facts = h.3 ∙ ap (λ (calls : List Call). disk_before calls (disk_of facts)) rest in
    let all : IsSince (behind_sync [] facts.calls) now at since = subst (λ (calls : List Call). IsSince (behind_sync [] calls) now at since) front h.4 in
    (same, subst (λ (disk : Disk). IsSince (behind_sync [] facts.calls) disk at since) same all)

pub holed_now : (facts : Facts) (lost : Files) → HoledLost facts (moment facts) lost → IsHoledLostSince (behind_sync [] facts.calls) (disk_of facts) lost
holed_now facts lost h =
    let least : length facts.calls ≤ h.0 = h.1 in
    let front : take h.0 facts.calls ≡ facts.calls = take_all h.0 facts.calls least in
    let rest : drop h.0 facts.calls ≡ [] = drop_all h.0 facts.calls least in
    let all : IsHoledLostSince (behind_sync [] facts.calls) (disk_before (drop h.0 facts.calls) (disk_of facts)) lost =
    subst (λ (calls : List Call). IsHoledLostSince (behind_sync [] calls) (disk_before (drop h.0 facts.calls) (disk_of facts)) lost) front h.3 in
    subst (λ (calls : List Call). IsHoledLostSince (behind_sync [] facts.calls) (disk_before calls (disk_of facts)) lost) rest all

pub lost_now : (facts : Facts) (lost : Files) → Lost facts (moment facts) lost → IsLostSince (behind_sync [] facts.calls) (disk_of facts) lost
lost_now facts lost h =
    let least : length facts.calls ≤ h.0 = h.1 in
    let front : take h.0 facts.calls ≡ facts.calls = take_all h.0 facts.calls least in
    let rest : drop h.0 facts.calls ≡ [] = drop_all h.0 facts.calls least in
    let all : IsLostSince (behind_sync [] facts.calls) (disk_before (drop h.0 facts.calls) (disk_of facts)) lost =
    subst (λ (calls : List Call). IsLostSince (behind_sync [] calls) (disk_before (drop h.0 facts.calls) (disk_of facts)) lost) front h.3 in
    subst (λ (calls : List Call). IsLostSince (behind_sync [] facts.calls) (disk_before calls (disk_of facts)) lost) rest all

-- ---- names that stay

carried : (calls : List Call) (now : Disk) (q : List ℕ) → IsCarriedBy calls q → held_last calls now q ≡ (get now.files q, now.synced q)
carried [] now q c = refl
carried (call ∷ calls) now q c =
    ap (λ (o : Option (List ℕ)). option_map_or (held_last calls now) o (get call.found.files q, call.found.synced q)) c.0 ∙ carried calls now q c.1

abbrev IsNow : List Call → Disk → List ℕ → Type 0
IsNow since now q = held_last since now q ≡ (get now.files q, now.synced q)

pub stayed_at : (calls : List Call) (there : Bool) (now : Disk) (at : Files) (since : List Call) (q : List ℕ) → HasStayed calls there q → IsSince calls now at since → held_last since now q ≡ (get now.files q, now.synced q)
stayed_at [] there now at since q s one = subst (λ (calls : List Call). IsNow calls now q) (sym one.1) refl
stayed_at (call ∷ calls) there now at since q s (inl one) = subst (λ (calls : List Call). IsNow calls now q) (sym one.1) (carried (call ∷ calls) now q s.0.0)
stayed_at (call ∷ calls) there now at since q s (inr one) = stayed_at calls there now at since q s.1 one

not_both : (a b : Bool) → a ≡ true → b ≡ false → a ≡ b → ⊥
not_both a b is_on is_off same = (let bad : true ≡ false = sym is_on ∙ same ∙ is_off in cc)

pub begun_at : (calls : List Call) (there : Bool) (synced : Option (List ℕ)) (now : Disk) (at : Files) (since : List Call) (q : List ℕ) → HasStayedOrBegun calls there synced q → IsSince calls now at since → contains_key at q ≡ true
    → held_last since now q ≡ (get now.files q, now.synced q)
begun_at [] there synced now at since q s one is = subst (λ (calls : List Call). IsNow calls now q) (sym one.1) refl
begun_at (call ∷ calls) there synced now at since q s (inl one) is = subst (λ (calls : List Call). IsNow calls now q) (sym one.1) (elim s.0 [
  | inl stays ↦ carried (call ∷ calls) now q stays.0
  | inr begun ↦ absurd (not_both (contains_key at q) (contains_key call.found.files q) is begun.0 (ap (λ (files : Files). contains_key files q) one.0))
])
begun_at (call ∷ calls) there synced now at since q s (inr one) is = begun_at calls there synced now at since q s.1 one is

pub holed_names : (calls : List Call) (now : Disk) (lost : Files) (q : List ℕ) → HasStayed calls (contains_key now.files q) q → IsHoledLostSince calls now lost → contains_key lost q ≡ contains_key now.files q
holed_names [] now lost q s h = h.names q
holed_names (call ∷ calls) now lost q s (inl h) = h.names q ∙ s.0.1
holed_names (call ∷ calls) now lost q s (inr h) = holed_names calls now lost q s.1 h

pub lost_names : (calls : List Call) (now : Disk) (lost : Files) (q : List ℕ) → HasStayed calls (contains_key now.files q) q → IsLostSince calls now lost → contains_key lost q ≡ contains_key now.files q
lost_names [] now lost q s h = h.names q
lost_names (call ∷ calls) now lost q s (inl h) = h.names q ∙ s.0.1
lost_names (call ∷ calls) now lost q s (inr h) = lost_names calls now lost q s.1 h

-- ---- what is synced

sound_behind : (o : Option (List ℕ)) (call : Call) (calls : List Call) (now : Disk) (q held synced : List ℕ) → SyncsFront call.found → ((r : List ℕ) → (held_last calls now r).0 ≡ Some held → (held_last calls now r).1 ≡ Some synced → BeginsWith held synced)
    → (option_map_or (held_last calls now) o (get call.found.files q, call.found.synced q)).0 ≡ Some held
    → (option_map_or (held_last calls now) o (get call.found.files q, call.found.synced q)).1 ≡ Some synced → BeginsWith held synced
sound_behind None call calls now q held synced found later a b = found q held synced a b
sound_behind (Some r) call calls now q held synced found later a b = later r a b

sound_last : (calls : List Call) (now : Disk) (q held synced : List ℕ) → SyncsFronts calls now → (held_last calls now q).0 ≡ Some held → (held_last calls now q).1 ≡ Some synced → BeginsWith held synced
sound_last [] now q held synced s a b = s.1 q held synced a b
sound_last (call ∷ calls) now q held synced s a b = sound_behind (name_behind call.change q) call calls now q held synced s.0.0 (λ r c d. sound_last calls now r held synced (s.0.1, s.1) c d) a b

fronts_since : (calls : List Call) (now : Disk) (at : Files) (since : List Call) → SyncsFronts calls now → IsSince calls now at since → SyncsFronts since now
fronts_since [] now at since s one = subst (λ (calls : List Call). SyncsFronts calls now) (sym one.1) s
fronts_since (call ∷ calls) now at since s (inl one) = subst (λ (calls : List Call). SyncsFronts calls now) (sym one.1) s
fronts_since (call ∷ calls) now at since s (inr one) = fronts_since calls now at since (s.0.1, s.1) one

pub sound_at : (calls : List Call) (now : Disk) (at : Files) (since : List Call) (q held synced : List ℕ) → SyncsFronts calls now → IsSince calls now at since → (held_last since now q).0 ≡ Some held → (held_last since now q).1 ≡ Some synced → BeginsWith held synced
sound_at calls now at since q held synced s one a b = sound_last since now q held synced (fronts_since calls now at since s one) a b
