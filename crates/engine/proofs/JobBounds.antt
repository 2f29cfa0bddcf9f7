-- What a compaction merges is no more than the database can have.
use Rattle.std.proofs.Common.{◌≡◌, ℕ, ◌≤◌, List, [], ◌∷◌, ◌++◌, length, map, inl, inr, refl, sym, ap, subst, ◌∙◌, arith, sum_by}
use Rattle.std.specs.declared.cmp.Ordering.TheVariants.{Less, Equal}
use Rattle.std.specs.Cmp.{IsTotalOrder, tied_itself}
use Rattle.std.specs.List.{AllByRecursion}
use Rattle.std.proofs.lemmas.List.Sums.{sum_by-cons}
use Rattle.compact.specs.Merging.{HasPassed, HaveOwnSequences}
use Rattle.compact.specs.Rooms.{room_of}
use Rattle.cursor.specs.Places.{Cmp, Rises}
use Rattle.ikey.specs.declared.entry.Entry.{Entry}
use Rattle.ikey.specs.Below.{key_total}
use Rattle.ikey.specs.Entries.{InternalEntry, entry_of}
use Rattle.ikey.specs.Keys.{Key, key_cmp}
use Rattle.ikey.specs.Orders.{Order}
use Rattle.ikey.specs.Views.{Among}
use Rattle.running_job.specs.declared.open_job.OpenJob.{OpenJob}
use Rattle.db_cursor.specs.Scans.{ListsMerged}
use Rattle.db_cursor.specs.Whole.{Whole}
use Rattle.engine.specs.internal.Accounted.{AreAccounted}
use Rattle.machine.specs.Machine.{entry_weight}
use Rattle.engine.proofs.Weighing.{weighs_less, room_is}
pub use Rattle.engine.proofs.Weighing.{NoTwice}

-- ---- no entry comes twice

among_mapped : {A B : Type 0} (f : A → B) (list : List A) (y : B) → Among (map f list) y → (x : A) × Among list x × (y ≡ f x)
among_mapped f [] y i = absurd i
among_mapped f (x ∷ list) y (inl is) = (x, inl refl, is)
among_mapped f (x ∷ list) y (inr i) = let found = among_mapped f list y i in (found.0, inr found.1, found.2)

so_of_one : {A : Type 0} (P : A → Type 0) (list : List A) (x : A) → AllByRecursion P list → Among list x → P x
so_of_one P [] x all i = absurd i
so_of_one P (y ∷ list) x all (inl is) = subst P (sym is) all.0
so_of_one P (y ∷ list) x all (inr i) = so_of_one P list x all.1 i

-- the same internal key isn't below itself
never_less : (cmp : Cmp) → IsTotalOrder cmp → (k l : Key) → k.user ≡ l.user → k.sequence ≡ l.sequence → k.kind ≡ l.kind → key_cmp cmp k l ≡ Less → ⊥
never_less cmp total k l user sequence kind less =
    let same : l ≡ k = λ i. record { user = sym user i; sequence = sym sequence i; kind = sym kind i } in
    let bad : Equal ≡ Less = sym (tied_itself (key_total cmp total) k) ∙ (ap (λ (other : Key). key_cmp cmp k other) (sym same) ∙ less) in cc

rising_apart : (cmp : Cmp) → IsTotalOrder cmp → (entries : List InternalEntry) → Rises cmp entries → HaveOwnSequences entries → NoTwice (map entry_of entries)
rising_apart cmp total [] rises own = tt
rising_apart cmp total (x ∷ entries) rises own = (
  λ i.
      let twin = among_mapped entry_of entries (entry_of x) i in
      let user : x.key.user ≡ twin.0.key.user = ap (λ (e : Entry). e.key) twin.2 in
      let sequence : x.key.sequence ≡ twin.0.key.sequence = ap (λ (e : Entry). e.sequence) twin.2 in
      let less = so_of_one (λ (later : InternalEntry). key_cmp cmp x.key later.key ≡ Less) entries twin.0 rises.0 twin.1 in
      never_less cmp total x.key twin.0.key user sequence (own x twin.0 (inl refl) (inr twin.1) user sequence) less,
  rising_apart cmp total entries rises.1 (λ entry other i j. own entry other (inr i) (inr j)),
)

pub merged_apart : {K : Type 0} {g : _} (order : Order) (total : IsTotalOrder order.cmp) (whole : Whole) (work : OpenJob K g) (came left : List InternalEntry)
    → HasPassed (ListsMerged order.cmp) work.job.cursor whole came left → HaveOwnSequences (came ++ left) → NoTwice (map entry_of (came ++ left))
merged_apart order total whole work came left stands own = rising_apart order.cmp total (came ++ left) stands.1.rises own

-- ---- so many, and so much room

length_is : (entries : List Entry) → length entries ≡ sum_by (λ (entry : Entry). 1) entries
length_is [] = refl
length_is (entry ∷ entries) = (let rest = length_is entries in let whole = sum_by-cons (λ (e : Entry). 1) entry entries in omega (arith, rest, whole))

pub count_within : (count weight : ℕ) (entries all : List Entry) → NoTwice entries → ((entry : Entry) → Among entries entry → Among all entry) → AreAccounted all count weight → length entries ≤ count
count_within count weight entries all apart within accounted =
    let fewer = weighs_less (λ (entry : Entry). 1) entries accounted.all apart (λ entry i. accounted.within entry (within entry i)) in
    let bound = accounted.count in
    omega (arith, fewer, length_is entries, length_is accounted.all, bound)

pub room_apart_within : (count weight : ℕ) (entries all : List Entry) → NoTwice entries → ((entry : Entry) → Among entries entry → Among all entry) → AreAccounted all count weight → room_of entries ≤ weight
room_apart_within count weight entries all apart within accounted =
    let less = weighs_less entry_weight entries accounted.all apart (λ entry i. accounted.within entry (within entry i)) in
    let bound = accounted.weight in
    omega (arith, less, room_is entries, bound)
