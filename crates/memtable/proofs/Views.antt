-- What a reader at a sequence number sees while entries are added.
use Rattle.std.proofs.Common.{◌≡◌, ◌<◌, ◌+◌, ◌++◌, ℕ, Bool, List, [], ◌∷◌, length, nat_le, cond, sym, ap, ◌∙◌, append_assoc}
use Rattle.std.proofs.lemmas.Bool.{cond_both, lt-leb}
use Rattle.std.proofs.lemmas.List.{append-nil}
use Rattle.std.specs.List.{AllByRecursion}
use Rattle.std.specs.declared.cmp.Ordering.{Ordering}
use Rattle.ikey.specs.declared.entry.Entry.{Entry}
use Rattle.memtable.specs.Order.{Placed, is_before, put_in, ordered}
use Rattle.memtable.specs.Places.{up_to}
use Rattle.memtable.proofs.Orders.{ordered-push}

module _ (cmp : List ℕ → List ℕ → Ordering) (sequence : ℕ) where
  -- an entry that isn't seen
  skipped : (new : Placed) (later : List Placed) → sequence < new.entry.sequence → up_to sequence (new ∷ later) ≡ up_to sequence later
  skipped new later lt = ap (λ (b : Bool). cond b (new ∷ up_to sequence later) (up_to sequence later)) (lt-leb new.entry.sequence sequence lt)

  put-unseen : (new : Placed) (placed : List Placed) → sequence < new.entry.sequence → up_to sequence (put_in cmp new placed) ≡ up_to sequence placed
  put-unseen new [] lt = skipped new [] lt
  put-unseen new (first ∷ later) lt =
      cond_both (is_before cmp new.entry.key new.entry.sequence first.entry) (first ∷ put_in cmp new later) (new ∷ first ∷ later) (λ (v : List Placed). up_to sequence v ≡ up_to sequence (first ∷ later))
      (λ e. ap (λ (v : List Placed). cond (nat_le first.entry.sequence sequence) (first ∷ v) v) (put-unseen new later lt))
      (λ e. skipped new (first ∷ later) lt)

  pub later-unseen : (inserts more : List Entry) → AllByRecursion (λ (entry : Entry). sequence < entry.sequence) more
      → up_to sequence (ordered cmp (inserts ++ more)) ≡ up_to sequence (ordered cmp inserts)
  later-unseen inserts [] all = ap (λ (v : List Entry). up_to sequence (ordered cmp v)) (append-nil inserts)
  later-unseen inserts (entry ∷ more) all =
      ap (λ (v : List Entry). up_to sequence (ordered cmp v)) (sym (append_assoc inserts (entry ∷ []) more))
      ∙ later-unseen (inserts ++ entry ∷ []) more all.1
      ∙ ap (up_to sequence) (ordered-push cmp inserts entry)
      ∙ put-unseen (record { node = length inserts + 1; entry = entry }) (ordered cmp inserts) all.0
