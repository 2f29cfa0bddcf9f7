-- Which files have stayed under their names since the last sync, call after call.
use Rattle.std.proofs.Common.{◌≡◌, ◌⊎◌, inl, inr, ℕ, Bool, true, false, if◌then◌else◌, List, [], ◌∷◌, ◌++◌, Option, Some, None, refl, sym, ap, subst, ◌∙◌}
use Rattle.std.specs.FinMap.{contains_key}
use Rattle.std.specs.List.{AllByRecursion}
use Rattle.store.specs.Calls.{Adds, Idles}
use Rattle.store.specs.Files.{Facts, Files, Call, Creation, Disk, disk_of}
use Rattle.store.specs.Losses.{CarriesBut, HasStayed, HasStayedOrBegun, HasSync, IsCarriedBy, StaysNamed, StaysOrBegins, behind_sync, is_sync, name_behind}
use Rattle.store.specs.Stops.{WritesOnly}
use Rattle.store.proofs.Carrying.{carries_writes}

-- ---- calls after others

pub behind_more : (since first second : List Call) → behind_sync since (first ++ second) ≡ behind_sync (behind_sync since first) second
behind_more since [] second = refl
behind_more since (call ∷ first) second = behind_more (if is_sync call.change then [] else since ++ call ∷ []) first second

carried_more : (calls : List Call) (call : Call) (q : List ℕ) → IsCarriedBy calls q → name_behind call.change q ≡ Some q → IsCarriedBy (calls ++ call ∷ []) q
carried_more [] call q h is = (is, tt)
carried_more (one ∷ calls) call q h is = (h.0, carried_more calls call q h.1 is)

stayed_more : (calls : List Call) (call : Call) (there : Bool) (q : List ℕ) → HasStayed calls there q → name_behind call.change q ≡ Some q → contains_key call.found.files q ≡ there → HasStayed (calls ++ call ∷ []) there q
stayed_more [] call there q h is found = (((is, tt), found), tt)
stayed_more (one ∷ calls) call there q h is found = (((h.0.0.0, carried_more calls call q h.0.0.1 is), h.0.1), stayed_more calls call there q h.1 is found)

-- with the content that is synced as whatever says that there is none
abbrev Begun : List Call → Bool → Type 0 → List ℕ → Type 0
Begun [] there none q = Unit {0}
Begun (call ∷ calls) there none q =
    ((IsCarriedBy (call ∷ calls) q × (contains_key call.found.files q ≡ there)) ⊎ ((contains_key call.found.files q ≡ false) × none)) × Begun calls there none q

begun_more : (calls : List Call) (call : Call) (there : Bool) (none : Type 0) (q : List ℕ) → Begun calls there none q → name_behind call.change q ≡ Some q → contains_key call.found.files q ≡ there → Begun (calls ++ call ∷ []) there none q
begun_more [] call there none q h is found = (inl ((is, tt), found), tt)
begun_more (one ∷ calls) call there none q h is found = (
  elim h.0 [ inl stayed ↦ inl ((stayed.0.0, carried_more calls call q stayed.0.1 is), stayed.1) | inr came ↦ inr came ],
  begun_more calls call there none q h.1 is found,
)

begun_so : (calls : List Call) (there : Bool) (none other : Type 0) (q : List ℕ) → (none → other) → Begun calls there none q → Begun calls there other q
begun_so [] there none other q so h = tt
begun_so (call ∷ calls) there none other q so h = (elim h.0 [ inl stayed ↦ inl stayed | inr came ↦ inr (came.0, so came.1) ], begun_so calls there none other q so h.1)

begun_of : (calls : List Call) (there : Bool) (synced : Option (List ℕ)) (q : List ℕ) → HasStayedOrBegun calls there synced q → Begun calls there (synced ≡ None) q
begun_of [] there synced q h = tt
begun_of (call ∷ calls) there synced q h = (h.0, begun_of calls there synced q h.1)

of_begun : (calls : List Call) (there : Bool) (synced : Option (List ℕ)) (q : List ℕ) → Begun calls there (synced ≡ None) q → HasStayedOrBegun calls there synced q
of_begun [] there synced q h = tt
of_begun (call ∷ calls) there synced q h = (h.0, of_begun calls there synced q h.1)

-- ---- calls that carry the name

abbrev Each : List ℕ → Bool → List Call → Type 0
Each q there calls = AllByRecursion (λ (call : Call). (name_behind call.change q ≡ Some q) × (contains_key call.found.files q ≡ there)) calls

either : (P : List Call → Type 0) (b : Bool) (calls : List Call) → P [] → P calls → P (if b then [] else calls)
either P true calls none some = none
either P false calls none some = some

stayed_over : (since more : List Call) (there : Bool) (q : List ℕ) → HasStayed since there q → Each q there more → HasStayed (behind_sync since more) there q
stayed_over since [] there q h each = h
stayed_over since (call ∷ more) there q h each =
    either (λ (calls : List Call). HasStayed (behind_sync calls more) there q) (is_sync call.change) (since ++ call ∷ [])
    (stayed_over [] more there q tt each.1) (stayed_over (since ++ call ∷ []) more there q (stayed_more since call there q h each.0.0 each.0.1) each.1)

begun_over : (since more : List Call) (there : Bool) (none : Type 0) (q : List ℕ) → Begun since there none q → Each q there more → Begun (behind_sync since more) there none q
begun_over since [] there none q h each = h
begun_over since (call ∷ more) there none q h each =
    either (λ (calls : List Call). Begun (behind_sync calls more) there none q) (is_sync call.change) (since ++ call ∷ [])
    (begun_over [] more there none q tt each.1) (begun_over (since ++ call ∷ []) more there none q (begun_more since call there none q h each.0.0 each.0.1) each.1)

-- with a sync among them, whatever was before is forgotten
begun_anew : (since more : List Call) (there : Bool) (none : Type 0) (q : List ℕ) → HasSync more → Each q there more → Begun (behind_sync since more) there none q
begun_anew since [] there none q came each = absurd came
begun_anew since (call ∷ more) there none q (inr later) each = begun_anew (if is_sync call.change then [] else since ++ call ∷ []) more there none q later each.1
begun_anew since (call ∷ more) there none q (inl is) each =
    subst (λ (b : Bool). Begun (behind_sync (if b then [] else since ++ call ∷ []) more) there none q) (sym is) (begun_over [] more there none q tt each.1)

each_of : (more : List Call) (files : Files) (mine : List ℕ → Type 0) (q : List ℕ) → (mine q → ⊥)
    → AllByRecursion (λ (call : Call). (q : List ℕ) → (mine q → ⊥) → (name_behind call.change q ≡ Some q) × (contains_key call.found.files q ≡ contains_key files q)) more → Each q (contains_key files q) more
each_of [] files mine q apart h = tt
each_of (call ∷ more) files mine q apart h = (h.0 q apart, each_of more files mine q apart h.1)

pub stays_on : (old new : Facts) (mine : List ℕ → Type 0) (q : List ℕ) → (mine q → ⊥) → CarriesBut old new mine → StaysNamed old q → StaysNamed new q
stays_on old new mine q apart c h =
    let there = contains_key old.files q in
    let over = stayed_over (behind_sync [] old.calls) c.more there q h (each_of c.more old.files mine q apart c.each) in
    let all : behind_sync [] new.calls ≡ behind_sync (behind_sync [] old.calls) c.more = ap (behind_sync []) c.calls ∙ behind_more [] old.calls c.more in
    subst (λ (b : Bool). HasStayed (behind_sync [] new.calls) b q) (sym (c.now q apart)) (subst (λ (calls : List Call). HasStayed calls there q) (sym all) over)

pub begins_on : (old new : Facts) (mine : List ℕ → Type 0) (q : List ℕ) → (mine q → ⊥) → CarriesBut old new mine → StaysOrBegins old q → StaysOrBegins new q
begins_on old new mine q apart c h =
    let there = contains_key old.files q in
    let each = each_of c.more old.files mine q apart c.each in
    let before = begun_of (behind_sync [] old.calls) there (old.synced q) q h in
    let over : Begun (behind_sync (behind_sync [] old.calls) c.more) there (new.synced q ≡ None) q = elim (c.synced q apart) [
      | inl same ↦ begun_so (behind_sync (behind_sync [] old.calls) c.more) there (old.synced q ≡ None) (new.synced q ≡ None) q (λ none. same ∙ none) (begun_over (behind_sync [] old.calls) c.more there (old.synced q ≡ None) q before each)
      | inr came ↦ begun_anew (behind_sync [] old.calls) c.more there (new.synced q ≡ None) q came each
    ] in
    let all : behind_sync [] new.calls ≡ behind_sync (behind_sync [] old.calls) c.more = ap (behind_sync []) c.calls ∙ behind_more [] old.calls c.more in
    subst (λ (b : Bool). HasStayedOrBegun (behind_sync [] new.calls) b (new.synced q) q) (sym (c.now q apart))
    (subst (λ (calls : List Call). HasStayedOrBegun calls there (new.synced q) q) (sym all) (of_begun (behind_sync (behind_sync [] old.calls) c.more) there (new.synced q) q over))

-- calls that wrote files of other names alone
pub writes_stay : (old new : Facts) (mine : List ℕ → Type 0) (q : List ℕ) → (mine q → ⊥) → WritesOnly old new mine → StaysNamed old q → StaysNamed new q
writes_stay old new mine q apart h = stays_on old new mine q apart (carries_writes old new mine h)

-- ---- calls that change nothing

pub stays_same : (old new : Facts) (q : List ℕ) → new.calls ≡ old.calls → contains_key new.files q ≡ contains_key old.files q → StaysNamed old q → StaysNamed new q
stays_same old new q calls there h =
    subst (λ (b : Bool). HasStayed (behind_sync [] new.calls) b q) (sym there) (subst (λ (cs : List Call). HasStayed (behind_sync [] cs) (contains_key old.files q) q) (sym calls) h)

pub begins_same : (old new : Facts) (q : List ℕ) → new.calls ≡ old.calls → contains_key new.files q ≡ contains_key old.files q → new.synced q ≡ old.synced q → StaysOrBegins old q → StaysOrBegins new q
begins_same old new q calls there synced h =
    subst (λ (s : Option (List ℕ)). HasStayedOrBegun (behind_sync [] new.calls) (contains_key new.files q) s q) (sym synced)
    (subst (λ (b : Bool). HasStayedOrBegun (behind_sync [] new.calls) b (old.synced q) q) (sym there)
    (subst (λ (cs : List Call). HasStayedOrBegun (behind_sync [] cs) (contains_key old.files q) (old.synced q) q) (sym calls) h))

begun_stayed : (calls : List Call) (there : Bool) (synced : Option (List ℕ)) (q : List ℕ) → HasStayed calls there q → HasStayedOrBegun calls there synced q
begun_stayed [] there synced q h = tt
begun_stayed (call ∷ calls) there synced q h = (inl h.0, begun_stayed calls there synced q h.1)

pub stays_begins : (facts : Facts) (q : List ℕ) → StaysNamed facts q → StaysOrBegins facts q
stays_begins facts q h = begun_stayed (behind_sync [] facts.calls) (contains_key facts.files q) (facts.synced q) q h

-- ---- after a sync

pub stays_behind : (facts : Facts) (q : List ℕ) → behind_sync [] facts.calls ≡ [] → StaysNamed facts q
stays_behind facts q none = subst (λ (calls : List Call). HasStayed calls (contains_key facts.files q) q) (sym none) tt

pub begins_behind : (facts : Facts) (q : List ℕ) → behind_sync [] facts.calls ≡ [] → StaysOrBegins facts q
begins_behind facts q none = stays_begins facts q (stays_behind facts q none)

-- ---- a file that is begun

-- the calls before it, and it: none found the file
lacked_more : (calls : List Call) (call : Call) (there other : Bool) (none : Type 0) (q : List ℕ) → there ≡ false → none → HasStayed calls there q → contains_key call.found.files q ≡ false → Begun (calls ++ call ∷ []) other none q
lacked_more [] call there other none q is n h found = (inr (found, n), tt)
lacked_more (one ∷ calls) call there other none q is n h found = (inr (h.0.1 ∙ is, n), lacked_more calls call there other none q is n h.1 found)

pub begun_by : (old new : Facts) (q : List ℕ) → Idles old new ⊎ Adds old new (Creation q) → StaysNamed old q → contains_key old.files q ≡ false → new.synced q ≡ None → StaysOrBegins new q
begun_by old new q (inl idle) h lacks none =
    stays_begins new q (stays_same old new q idle.0 (ap (λ (disk : Disk). contains_key disk.files q) idle.1) h)
begun_by old new q (inr adds) h lacks none =
    let call : Call = record { found = disk_of old; change = Creation q } in
    let all : behind_sync [] new.calls ≡ behind_sync [] old.calls ++ call ∷ [] = ap (behind_sync []) adds.0 ∙ behind_more [] old.calls (call ∷ []) in
    let begun = lacked_more (behind_sync [] old.calls) call (contains_key old.files q) (contains_key new.files q) (new.synced q ≡ None) q lacks none h lacks in
    subst (λ (calls : List Call). HasStayedOrBegun calls (contains_key new.files q) (new.synced q) q) (sym all) (of_begun (behind_sync [] old.calls ++ call ∷ []) (contains_key new.files q) (new.synced q) q begun)
