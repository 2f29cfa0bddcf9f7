-- What a job leaves of its source, step by step.
use Rattle.std.proofs.Common.{◌≡◌, ◌≤◌, ℕ, zero, suc, inl, inr, refl, subst}
use Rattle.cursor.specs.Cuts.{Cut}
use Rattle.cursor.specs.Moves.{Stays}
use Rattle.store.specs.Files.{Facts}
use Rattle.compact.specs.Leaving.{AreTurns, IsTurn, LeavesOthers}
use Rattle.compact.specs.Merging.{KeepsMine}
use Rattle.compact.specs.Outputs.{TablesWritten, IsMineUpTo, WritesTables}
use Rattle.compact.proofs.Merges.{mine-then}
use Rattle.compact.proofs.Writing.{mine-up, writes-more}

module _ {H S : Type 0} (facts : S → Facts) (store_of : H → S) (with_store : H → S → H) where
  turn-more : (fewer more : H → H → Type 0) (first mine : ℕ → Type 0) (a b : H) → ((s t : H) → fewer s t → more s t) → ((n : ℕ) → first n → mine n)
      → IsTurn facts store_of with_store fewer first a b → IsTurn facts store_of with_store more mine a b
  turn-more fewer more first mine a b f g (inl moved) = inl (f a b moved)
  turn-more fewer more first mine a b f g (inr wrote) = inr (wrote.0, wrote.1, writes-more (facts (store_of a)) (facts wrote.0) first mine g wrote.2)

  turns-more : (fewer more : H → H → Type 0) (first mine : ℕ → Type 0) (n : ℕ) (a b : H) → ((s t : H) → fewer s t → more s t) → ((n : ℕ) → first n → mine n)
      → AreTurns facts store_of with_store fewer first n a b → AreTurns facts store_of with_store more mine n a b
  turns-more fewer more first mine zero a b f g h = h
  turns-more fewer more first mine (suc n) a b f g h = (h.0, turn-more fewer more first mine a h.0 f g h.1, turns-more fewer more first mine n h.0 b f g h.2)

  turns-then : (moves : H → H → Type 0) (mine : ℕ → Type 0) (n m : ℕ) (a b d : H) → AreTurns facts store_of with_store moves mine n a b → AreTurns facts store_of with_store moves mine m b d
      → (all : ℕ) × AreTurns facts store_of with_store moves mine all a d
  turns-then moves mine zero m a b d h k = (m, subst (λ (s : H). AreTurns facts store_of with_store moves mine m s d) h k)
  turns-then moves mine (suc n) m a b d h k =
      let more = turns-then moves mine n m h.0 b d h.2 k in
      (suc more.0, (h.0, h.1, more.1))

module _ {C H S : Type 0} (facts : S → Facts) (store_of : H → S) (with_store : H → S → H) (facts_of : H → Facts) (keeps : C → H → H → Type 0) (limited : C → H → Type 0) (torn : C → H → Cut → Type 0) (leaves : (ℕ → Type 0) → H → H → Type 0) (over : C → ℕ → Type 0) where
  pub leaves-all : (mine : ℕ → Type 0) (cursor : C) (source : H) → LeavesOthers facts store_of with_store keeps leaves over mine cursor cursor source source
  leaves-all mine cursor source = record { turns = (0, refl); within = λ n is. is; same = λ s t k. k }

  wrote : (mine : ℕ → Type 0) (source : H) (held store : S) → held ≡ store_of source → WritesTables (facts held) (facts store) mine → WritesTables (facts (store_of source)) (facts store) mine
  wrote mine source held store is writes = subst (λ (s : S). WritesTables (facts s) (facts store) mine) is writes

  pub leaves-written : (mine : ℕ → Type 0) (cursor : C) (source : H) (held store : S) → held ≡ store_of source → WritesTables (facts held) (facts store) mine
      → LeavesOthers facts store_of with_store keeps leaves over mine cursor cursor source (with_store source store)
  leaves-written mine cursor source held store is writes = record {
    turns = (1, (with_store source store, inr (store, refl, wrote mine source held store is writes), refl));
    within = λ n is. is;
    same = λ s t k. k;
  }

  pub leaves-moved : (mine : ℕ → Type 0) (cursor moved : C) (source : H) (held store : S) (after : H) → held ≡ store_of source → WritesTables (facts held) (facts store) mine
      → Stays facts_of keeps limited torn leaves over cursor moved (with_store source store) after → LeavesOthers facts store_of with_store keeps leaves over mine cursor moved source after
  leaves-moved mine cursor moved source held store after is writes stays = record {
    turns = (2, (with_store source store, inr (store, refl, wrote mine source held store is writes), (after, inl stays.left, refl)));
    within = stays.within;
    same = stays.same;
  }

  pub leaves-on : ((fewer more : ℕ → Type 0) (s t : H) → ((n : ℕ) → fewer n → more n) → leaves fewer s t → leaves more s t)
      → (o u : TablesWritten) (n m e : ℕ) (first second third : C) (a b d : H) → n ≤ m → m ≤ e → KeepsMine o n u m
      → LeavesOthers facts store_of with_store keeps leaves over (IsMineUpTo o n m) first second a b → LeavesOthers facts store_of with_store keeps leaves over (IsMineUpTo u m e) second third b d
      → LeavesOthers facts store_of with_store keeps leaves over (IsMineUpTo o n e) first third a d
  leaves-on more_left o u n m e first second third a b d le more keeps_mine h k = record {
    turns =
        turns-then facts store_of with_store (leaves (over first)) (IsMineUpTo o n e) h.turns.0 k.turns.0 a b d
        (turns-more facts store_of with_store (leaves (over first)) (leaves (over first)) (IsMineUpTo o n m) (IsMineUpTo o n e) h.turns.0 a b (λ s t l. l) (λ number is. mine-up o n m e number more is) h.turns.1)
        (turns-more facts store_of with_store (leaves (over second)) (leaves (over first)) (IsMineUpTo u m e) (IsMineUpTo o n e) k.turns.0 b d (λ s t l. more_left (over second) (over first) s t h.within l)
        (λ number is. mine-then o u n m e number le more keeps_mine is) k.turns.1);
    within = λ number is. h.within number (k.within number is);
    same = λ s t is. k.same s t (h.same s t is);
  }
