-- A table that is made of its entries at once.
use Rattle.std.proofs.Common.{◌≡◌, ◌<◌, ◌^◌, ℕ, List, length, reverse, sym, ap, subst, ◌∙◌, arith}
use Rattle.std.specs.Global.{Vec}
use Rattle.std.specs.Cmp.{IsTotalOrder}
use Rattle.std.specs.FinMap.{IsAntisymmetric}
use Rattle.std.specs.declared.cmp.Ordering.{Ordering}
use Rattle.ikey.specs.declared.entry.Entry.{Entry}
use Rattle.memtable.specs.Chains.{IsLevel}
use Rattle.memtable.specs.Contents.{Contents}
use Rattle.memtable.specs.Levels.{AreLevels, AreEnds, AreNumbers}
use Rattle.memtable.specs.Newest.{AllDiffer}
use Rattle.memtable.specs.Order.{ordered, nodes_of, Rises}
use Rattle.memtable.specs.Table.{IsTable}
use Rattle.memtable.proofs.Numbers.{numbers-long}
use Rattle.memtable.proofs.SortedEntries.{nodes-numbered, all-rise}

module _ (cmp : List ℕ → List ℕ → Ordering) (entries : List Entry) (row : List ℕ) (is : row ≡ nodes_of (ordered cmp entries)) where
  pub row-long : length row ≡ length entries
  row-long = ap (λ (v : List ℕ). length v) is ∙ numbers-long (length entries) (nodes_of (ordered cmp entries)) (nodes-numbered cmp entries)

  pub row-numbers : AreNumbers (length row) row
  row-numbers = subst (λ (n : ℕ). AreNumbers n row) (sym row-long) (subst (AreNumbers (length entries)) (sym is) (nodes-numbered cmp entries))

  pub table-of : IsTotalOrder cmp → IsAntisymmetric cmp → (contents : Contents) (levels : List (Vec ℕ)) (ends : List ℕ) (back : Vec ℕ) → contents.inserts ≡ entries → contents.entry_room ≡ 0
      → AllDiffer entries → length entries < 2 ^ 32 → AreLevels levels row (length row) (length row) → AreEnds ends row → IsLevel back (reverse row) (length row) (length row)
      → length levels ≡ 12 → length ends ≡ 12 → IsTable cmp contents levels ends back (length entries)
  table-of total exact contents levels ends back inserts room new few forward last backward many many_ends =
      let all : length entries ≡ length contents.inserts = sym (ap (λ (v : List Entry). length v) inserts) in
      let nodes : row ≡ nodes_of (ordered cmp contents.inserts) = is ∙ ap (λ (v : List Entry). nodes_of (ordered cmp v)) (sym inserts) in
      let count : length row ≡ length contents.inserts = row-long ∙ all in
      record {
        many = many;
        many_ends = many_ends;
        ends_in = subst (AreEnds ends) nodes last;
        enough = omega (arith, all, room);
        few = few;
        rises = subst (λ (v : List Entry). Rises cmp (ordered cmp v)) (sym inserts) (all-rise cmp total exact entries new);
        forward =
            subst (λ (v : List ℕ). AreLevels levels v (length contents.inserts) (length entries)) nodes
            (subst (λ (n : ℕ). AreLevels levels row n (length entries)) count (subst (λ (n : ℕ). AreLevels levels row (length row) n) row-long forward));
        backward =
            subst (λ (v : List ℕ). IsLevel back (reverse v) (length contents.inserts) (length entries)) nodes
            (subst (λ (n : ℕ). IsLevel back (reverse row) n (length entries)) count (subst (λ (n : ℕ). IsLevel back (reverse row) (length row) n) row-long backward));
      }
