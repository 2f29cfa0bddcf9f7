-- That the files hold what the last machine accepted, and that the first one is that of the files.
use Rattle.std.proofs.Common.{◌≡◌, ◌⊎◌, ℕ, ◌+◌, ◌≤◌, Bool, true, false, List, [], ◌∷◌, ◌++◌, length, Option, Some, None, MatchOption, inl, inr, refl, sym, ◌∙◌, subst, arith, if◌then◌else◌}
use Rattle.store.specs.Files.{Facts, Files}
use Rattle.batch.specs.declared.operation.Operation.{Operation}
use Rattle.coding.specs.declared.error.DbError.{DbError}
use Rattle.coding.specs.declared.error.DbError.TheVariants as error
use Rattle.ikey.specs.Orders.{Order}
use Rattle.ikey.specs.Views.{Contents, IsView}
use Rattle.recover.specs.Directory.{IsDirectory}
use Rattle.machine.specs.Machine.{Machine, after_batch, after_batches, current}
use Rattle.machine.specs.Access.{accepted}
use Rattle.machine.specs.Lifetime.{Closed}
use Rattle.machine.specs.declared.command.Answer.TheVariants.{Done, Refused}
use Rattle.engine.specs.FromFiles.{EndsEachLaw, EndsLaw, StartsEachLaw, StartsLaw}
use Rattle.engine.specs.internal.Directory.{MeansCurrent, MeansWith, IsAtRest}
use Rattle.directory_writes.specs.Differing.{with_files}
use Rattle.engine.specs.Headline.{Bounds, Holds, HoldsAccepted, IsFirst, IsLast}
use Rattle.engine.specs.Origins.{ComesFrom}
use Rattle.engine.proofs.Beginnings.{comes_from_itself}

pushed : (map : Contents) (batches : List (List Operation)) (batch : List Operation) → after_batches map (batches ++ batch ∷ []) ≡ after_batch (after_batches map batches) batch
pushed map [] batch = refl
pushed map (first ∷ batches) batch = pushed (after_batch map first) batches batch

pub holds_current : (order : Order) (files : Files) (m : Machine) → MeansCurrent order files m → Holds order files m
holds_current order files m means = record { entries = means.entries; directory = means.spelled; view = means.view }

pub holds_with : (order : Order) (files : Files) (m : Machine) (operations : List Operation) → MeansWith order files m operations → Holds order files (accepted m operations false)
holds_with order files m [] means = record {
  entries = means.entries;
  directory = subst (λ (n : ℕ). IsDirectory order files means.entries n) (let same : m.used + 0 ≡ m.used = omega arith in same) means.spelled;
  view = subst (λ (n : ℕ). IsView means.entries n (current m)) (let same : m.used + 0 ≡ m.used = omega arith in same) means.view;
}
holds_with order files m (operation ∷ operations) means = record {
  entries = means.entries;
  directory = means.spelled;
  view = subst (λ (map : Contents). IsView means.entries (m.used + length (operation ∷ operations)) map) (sym (pushed m.base m.batches (operation ∷ operations))) means.view;
}

pub held : (order : Order) (files : Files) (m : Machine) (doubt : Option (List Operation))
    → MatchOption doubt (MeansCurrent order files m) (λ operations. MeansCurrent order files m ⊎ MeansWith order files m operations)
    → MatchOption doubt (Holds order files m) (λ batch. Holds order files m ⊎ Holds order files (accepted m batch false))
held order files m None means = holds_current order files m means
held order files m (Some operations) (inl means) = inl (holds_current order files m means)
held order files m (Some operations) (inr means) = inr (holds_with order files m operations means)

-- some directory from which the files may come is that of the machine
abbrev Lasts : Order → Facts → Machine → Type 0
Lasts order facts m = (ideal : Files) × ComesFrom order m.damaged facts.files ideal × IsLast order (with_files facts ideal) m

lasts : (order : Order) (facts : Facts) (m : Machine) → IsAtRest order facts.files m → m.failures ≤ facts.failures → m.denials ≡ facts.denials → Lasts order facts m
lasts order facts m rest failures denials = (
  rest.ideal,
  rest.origin,
  record {
    holds = held order rest.ideal m m.in_doubt rest.meaning;
    bounds = record { made = rest.readable.made; numbers = rest.readable.numbers; limits = rest.readable.limits };
    failures = failures;
    denials = denials;
  },
)

served : (A : Type 0) (B : DbError → Type 0) (opened : Bool) → (B error.NotOpen → ⊥) → MatchOption (if opened then None else Some error.NotOpen) A B → A
served A B true refused a = a
served A B false refused b = absurd (refused b)

unclosed : (order : Order) (files : Files) (ended last : Machine) → Closed ended Done last → IsAtRest order files last → IsAtRest order files ended
unclosed order files ended last is rest =
    let moved = subst (λ (m : Machine). IsAtRest order files m) is rest in
    record { ideal = moved.ideal; origin = moved.origin; meaning = moved.meaning; readable = record { made = moved.readable.made; numbers = moved.readable.numbers; limits = moved.readable.limits } }

undone : (e : DbError) (P : Type 0) → (Done ≡ Refused e) × P → ⊥
undone e P h = let is = h.0 in absurd (cc)

pub ends_last : EndsEachLaw
ends_last order facts given ended last (inl h) stands =
    subst (λ (m : Machine). Lasts order facts m) h.1 (lasts order facts last stands.rest (let is = stands.counts.failures in omega arith) stands.counts.denials)
ends_last order facts given ended last (inr h) stands =
    let closes = served _ _ ended.opened (undone error.NotOpen _) h.1 in
    let kept = h.0.undenied (λ is. absurd (cc)) in
    lasts order facts ended (unclosed order facts.files ended last closes stands.rest) (let rises = h.0.failures in let is = stands.counts.failures in omega arith) (sym kept ∙ stands.counts.denials)

-- ---- the first machine

-- of a directory from which the files may come
pub starts_first : StartsEachLaw
starts_first order facts ideal first from is =
    let means : MeansCurrent order ideal first = record {
      entries = is.holds.entries;
      spelled = is.holds.directory;
      view = is.holds.view;
      accounted = record { all = is.holds.entries; within = λ e i. i; count = (let size = is.size.0 in omega (arith, size)); weight = (let size = is.size.1 in omega (arith, size)) };
    } in
    record {
      counts = record { failures = is.counts.0; denials = is.counts.1 };
      ids = is.ids;
      reached = omega (arith, is.accepted.2);
      opened = is.closed.0;
      broken = is.closed.1;
      views = (is.closed.2, is.closed.3);
      rest = record {
        ideal = ideal;
        origin = from;
        meaning = subst (λ (doubt : Option (List Operation)). MatchOption doubt (MeansCurrent order ideal first) (λ operations. MeansCurrent order ideal first ⊎ MeansWith order ideal first operations)) (sym is.accepted.1) means;
        readable = record { made = is.bounds.made; numbers = is.bounds.numbers; limits = is.bounds.limits };
      };
    }

-- ---- undamaged files

-- the directory of the first machine is then the files themselves
pub first_itself : (order : Order) (facts : Facts) (m : Machine) → IsFirst order facts m → IsFirst order (with_files facts facts.files) m
first_itself order facts m is = record { holds = is.holds; bounds = is.bounds; accepted = is.accepted; closed = is.closed; ids = is.ids; counts = is.counts; size = is.size }

-- and the same holds at the end
pub last_itself : (order : Order) (facts : Facts) (ideal : Files) (m : Machine) → ideal ≡ facts.files → IsLast order (with_files facts ideal) m → IsLast order facts m
last_itself order facts ideal m same is = record {
  holds = subst (λ (fs : Files). HoldsAccepted order fs m) same is.holds;
  bounds = subst (λ (fs : Files). Bounds order fs m) same is.bounds;
  failures = is.failures;
  denials = is.denials;
}

pub starts_itself : StartsLaw
starts_itself order facts first undamaged is = starts_first order facts facts.files first (comes_from_itself order first.damaged facts.files) (first_itself order facts first is)

pub ends_itself : EndsLaw
ends_itself order facts given ended last undamaged h stands =
    let end = ends_last order facts given ended last h stands in
    last_itself order facts end.0 ended (end.1.undamaged undamaged) end.2
