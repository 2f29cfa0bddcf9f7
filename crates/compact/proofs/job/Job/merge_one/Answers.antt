use Rattle.std.proofs.lemmas.Result.{err_from_is_err_and}
use Rattle.store.specs.Files.{Facts}
use Rattle.cursor.specs.Cuts.{TornAt, next_cut}
use Rattle.std.proofs.Common.{IsTrue, ◌⊎◌, ◌≤◌, ◌^◌, map, List, ℕ, ◌∷◌, ◌++◌, length, ◌≡◌, inl, inr, refl, sym, ap, subst, ◌∙◌}
use Rattle.cursor.specs.Merging.{listed}
use Rattle.cursor.specs.Places.{Listed, within}
use Rattle.ikey.specs.Entries.{InternalEntry, entry_of}
use Rattle.ikey.specs.Below.{same_key}
use Rattle.ikey.specs.Keys.{Key, IsKey}
use Rattle.ikey.specs.KeyViews.{key_of}
use Rattle.compact.specs.Choosing.{written_for}
use Rattle.compact.specs.Merging.{IsBetween, IsLimited, HaveOwnSequences, ReadsIntact}
use Rattle.compact.specs.Rooms.{AreLarge}
use Rattle.compact.proofs.Loads.{rewritten, well-rewritten, same-rewritten, is-rewritten, large-chosen}
use Rattle.compact.specs.Outputs.{HasWritten, IsMine, IsMineUpTo, WritesTables}
use Rattle.compact.proofs.Jobs.{job-step, writes-move, still-keeps, still-lists, still-move, refuses-same, refuses-moving}
use Rattle.compact.proofs.Leavings.{leaves-moved, leaves-written}
use Rattle.compact.proofs.Merges.{kind-kept}
use Rattle.compact.proofs.Passing.{standing, at_place}
use Rattle.compact.proofs.Refusing.{never-behind, writes-rise}
use Rattle.compact.proofs.Writing.{refuses-as, writes-mine, writes-reads, writes-nothing}
use Rattle.compact.proofs.job.Job.merge_one.Goals as goal

pub returns-clause-merged : goal.returns-clause-merged
returns-clause-merged g c = λ came entry rest t h.
    let at : Listed = listed (came ++ entry ∷ rest) (within (came ++ entry ∷ rest) (length came)) in
    let is_key : IsKey c.key-bytes.result.now entry.key = c.key-bytes.ensures at (length came) entry h.left (standing came entry rest) (at_place came entry rest) in
    let value_is : c.value.result.now ≡ entry.value = c.value.ensures at (length came) entry h.left (standing came entry rest) (at_place came entry rest) in
    let over_is : IsKey c.copy_to.new.buffer.items entry.key = subst (λ (bytes : List ℕ). IsKey bytes entry.key) (sym c.in_ok-copy_to.ensures.ok) is_key in
    let k : Key = key_of c.in-Some.key in
    let same : entry.key ≡ k = same_key c.copy_to.new.buffer.items entry.key k over_is (subst (λ (bytes : List ℕ). IsKey bytes k) c.as_slice-2.ensures.value c.in-Some.ensures.found) in
    job-step g.K.KeyOrder.cmp (g.D.DeeperFiles.covers c.args.deeper.now) g.S.Store.facts g.H.HasStore.store_of g.H.HasStore.with_store g.H.HasStore.gathers g.C.Cursor.facts g.C.Cursor.lists g.C.Cursor.keeps g.C.Cursor.limited g.C.Cursor.torn g.C.Cursor.leaves g.C.Cursor.over
    c.requires.facts g.met.H.HasStore.replaced g.met.H.HasStore.apart c.requires.gathers g.met.C.Cursor.kept
    c.args.self.now.last.items c.copy_to.new.buffer.items c.args.self.now.cursor c.next.new.self c.args.self.now.selection c.take.new.self c.args.self.now.outputs c.write_chosen.new.outputs
    c.args.source.now c.store_mut.result.now c.write_chosen.new.store c.next.new.source c.args.numbers.now.next c.write_chosen.new.numbers.next came entry rest c.in_ok-choice.choice
    c.store_mut.ensures.value (writes-mine (g.S.Store.facts c.store_mut.result.now) (g.S.Store.facts c.write_chosen.new.store) c.args.self.now.outputs c.args.numbers.now.next c.write_chosen.new.numbers.next c.write_chosen.new.numbers.in_range.1 c.in_ok-write_chosen.ensures.writes) c.in_ok-write_chosen.ensures.numbers c.write_chosen.new.numbers.in_range.1 c.in_ok-write_chosen.ensures.mine c.in_ok-next.ensures.moves c.in_ok-next.ensures.stays t over_is
    (λ last_key x is up. c.comes_behind.ensures.behind c.if-not-comes_behind.false last_key entry.key x (entry_of entry) (subst (λ (bytes : List ℕ). IsKey bytes last_key) (sym c.as_slice.ensures.value) is) is_key up refl refl)
    (λ xs ys behind chosen. c.in_ok-choice.ensures.chosen xs ys (entry_of entry) (ap (λ (x : Key). x.user) same) (ap (λ (x : Key). x.sequence) same) (kind-kept entry.key.kind entry.value ∙ ap (λ (x : Key). x.kind) same) behind chosen)
    (λ tb pairs kept are is.
    let new = c.in_ok-write_chosen.ensures.written pairs kept (rewritten entry) tb
    (is-rewritten c.as_slice-3.result.now c.kept_value.result.now c.as_slice-4.result.now entry k.kind (subst (λ (bytes : List ℕ). IsKey bytes entry.key) (sym c.as_slice-3.ensures.value) over_is) (ap (λ (x : Key). x.kind) same) (c.as_slice-4.ensures.value ∙ c.in_ok-copy_to-2.ensures.ok ∙ value_is) c.kept_value.ensures)
    (ap (λ (x : Key). x.user) same) are is in
    (new.0, new.1, new.2, new.3, new.4 ∙ (λ i. written_for c.in_ok-choice.choice (c.released.ensures.value i) (same-rewritten entry i)), new.5 (well-rewritten entry)))
    h

pub returns-then-not-comes_behind-clause-refused : goal.returns-then-not-comes_behind-clause-refused
returns-then-not-comes_behind-clause-refused g c = λ t came entry rest h own intact.
    let at : Listed = listed (came ++ entry ∷ rest) (within (came ++ entry ∷ rest) (length came)) in
    let is_key : IsKey c.key-bytes.result.now entry.key = c.key-bytes.ensures at (length came) entry h.left (standing came entry rest) (at_place came entry rest) in
    let refused = c.comes_behind.ensures.refused c.if-not-comes_behind.true entry.key is_key in
    never-behind g.K.KeyOrder.cmp g.met.K.KeyOrder.total g.met.K.KeyOrder.exact c.args.self.now.last.items came rest entry (g.met.C.Cursor.rises c.args.self.now.cursor c.args.source.now at h.left) own h.merging.last_is
    (refused.0, subst (λ (bytes : List ℕ). IsKey bytes refused.0) c.as_slice.ensures.value refused.1, refused.2)

pub returns-in_default-clause-refused : goal.returns-in_default-clause-refused
returns-in_default-clause-refused g c = λ t came entry rest h own intact.
    let at : Listed = listed (came ++ entry ∷ rest) (within (came ++ entry ∷ rest) (length came)) in
    let is_key : IsKey c.key-bytes.result.now entry.key = c.key-bytes.ensures at (length came) entry h.left (standing came entry rest) (at_place came entry rest) in
    c.in_default.ensures.none entry.key (subst (λ (bytes : List ℕ). IsKey bytes entry.key) (sym (c.as_slice-2.ensures.value ∙ c.in_ok-copy_to.ensures.ok)) is_key)

pub returns-in_err-write_chosen-clause-refused : goal.returns-in_err-write_chosen-clause-refused
returns-in_err-write_chosen-clause-refused g c =
    let b : Facts = g.S.Store.facts c.write_chosen.new.store in
    let d : Facts = g.S.Store.facts (g.H.HasStore.store_of (g.H.HasStore.with_store c.args.source.now c.write_chosen.new.store)) in
    let same_new : b ≡ d = ap g.S.Store.facts (sym (g.met.H.HasStore.replaced c.args.source.now c.write_chosen.new.store)) in
    let p = err_from_is_err_and c.from_residual-in_err-write_chosen.result c.from_residual-in_err-write_chosen.ensures.1 in
    rw (p.1, p.2) (refuses-same c.in_err-write_chosen.field-0.0 (g.S.Store.facts c.store_mut.result.now) (g.S.Store.facts (g.H.HasStore.store_of c.args.source.now)) b d
    _ (IsTrue d.faithful → (came : List InternalEntry) (entry : InternalEntry) (rest : List InternalEntry)
    → IsBetween g.K.KeyOrder.cmp (g.D.DeeperFiles.covers c.args.deeper.now) g.S.Store g.H.HasStore g.C.Cursor c.args.self.now c.args.source.now c.args.numbers.now.next came (entry ∷ rest) → HaveOwnSequences (came ++ entry ∷ rest) → ReadsIntact g.C.Cursor.torn c.args.self.now c.args.source.now → ⊥)
    _ (IsTrue d.faithful → (came : List InternalEntry) (entry : InternalEntry) (rest : List InternalEntry) → IsBetween g.K.KeyOrder.cmp (g.D.DeeperFiles.covers c.args.deeper.now) g.S.Store g.H.HasStore g.C.Cursor c.args.self.now c.args.source.now c.args.numbers.now.next came (entry ∷ rest)
    → ReadsIntact g.C.Cursor.torn c.args.self.now c.args.source.now → IsLimited g.C.Cursor.limited c.args.self.now c.args.source.now ⊎ AreLarge (map entry_of (came ++ entry ∷ rest)))
    (2 ^ 62 ≤ c.write_chosen.new.numbers.next)
    (ap g.S.Store.facts c.store_mut.ensures.value) same_new
    (λ none t came entry rest h own intact.
    let at : Listed = listed (came ++ entry ∷ rest) (within (came ++ entry ∷ rest) (length came)) in
    let is_key : IsKey c.key-bytes.result.now entry.key = c.key-bytes.ensures at (length came) entry h.left (standing came entry rest) (at_place came entry rest) in
    let value_is : c.value.result.now ≡ entry.value = c.value.ensures at (length came) entry h.left (standing came entry rest) (at_place came entry rest) in
    let over_is : IsKey c.copy_to.new.buffer.items entry.key = subst (λ (bytes : List ℕ). IsKey bytes entry.key) (sym c.in_ok-copy_to.ensures.ok) is_key in
    let k : Key = key_of c.in-Some.key in
    let same : entry.key ≡ k = same_key c.copy_to.new.buffer.items entry.key k over_is (subst (λ (bytes : List ℕ). IsKey bytes k) c.as_slice-2.ensures.value c.in-Some.ensures.found) in
    let chosen = c.in_ok-choice.ensures.chosen (map entry_of came) (map entry_of h.merging.kept) (entry_of entry) (ap (λ (x : Key). x.user) same) (ap (λ (x : Key). x.sequence) same)
    (kind-kept entry.key.kind entry.value ∙ ap (λ (x : Key). x.kind) same)
    (λ x m. let b = h.merging.bound x m in
    c.comes_behind.ensures.behind c.if-not-comes_behind.false b.0 entry.key x (entry_of entry) (subst (λ (bytes : List ℕ). IsKey bytes b.0) (sym c.as_slice.ensures.value) b.1) is_key b.2 refl refl)
    h.merging.chooses in
    none.1 (subst (λ (f : Facts). IsTrue f.faithful) (sym same_new) t) h.merging.written h.merging.kept (rewritten entry)
    (is-rewritten c.as_slice-3.result.now c.kept_value.result.now c.as_slice-4.result.now entry k.kind (subst (λ (bytes : List ℕ). IsKey bytes entry.key) (sym c.as_slice-3.ensures.value) over_is) (ap (λ (x : Key). x.kind) same) (c.as_slice-4.ensures.value ∙ c.in_ok-copy_to-2.ensures.ok ∙ value_is) c.kept_value.ensures)
    (ap (λ (x : Key). x.user) same) h.merging.written_are
    (record {
      written = subst (λ s. HasWritten g.K.KeyOrder.cmp c.args.self.now.outputs (g.S.Store.facts s) c.args.numbers.now.next h.merging.written) (sym c.store_mut.ensures.value) h.merging.has_written;
      goes_on = h.goes_on;
    })
    (writes-rise g.K.KeyOrder.cmp (g.D.DeeperFiles.covers c.args.deeper.now) c.take.new.self c.in-Some.key.user.now c.released.result.now c.in_ok-choice.choice came rest h.merging.kept entry
    none.0 (ap (λ (x : Key). x.user) same) c.released.ensures.value (g.met.C.Cursor.rises c.args.self.now.cursor c.args.source.now at h.left) chosen))
    (λ long t came entry rest h intact.
    let at : Listed = listed (came ++ entry ∷ rest) (within (came ++ entry ∷ rest) (length came)) in
    let is_key : IsKey c.key-bytes.result.now entry.key = c.key-bytes.ensures at (length came) entry h.left (standing came entry rest) (at_place came entry rest) in
    let value_is : c.value.result.now ≡ entry.value = c.value.ensures at (length came) entry h.left (standing came entry rest) (at_place came entry rest) in
    let over_is : IsKey c.copy_to.new.buffer.items entry.key = subst (λ (bytes : List ℕ). IsKey bytes entry.key) (sym c.in_ok-copy_to.ensures.ok) is_key in
    let k : Key = key_of c.in-Some.key in
    let same : entry.key ≡ k = same_key c.copy_to.new.buffer.items entry.key k over_is (subst (λ (bytes : List ℕ). IsKey bytes k) c.as_slice-2.ensures.value c.in-Some.ensures.found) in
    let chosen = c.in_ok-choice.ensures.chosen (map entry_of came) (map entry_of h.merging.kept) (entry_of entry) (ap (λ (x : Key). x.user) same) (ap (λ (x : Key). x.sequence) same)
    (kind-kept entry.key.kind entry.value ∙ ap (λ (x : Key). x.kind) same)
    (λ x m. let b = h.merging.bound x m in
    c.comes_behind.ensures.behind c.if-not-comes_behind.false b.0 entry.key x (entry_of entry) (subst (λ (bytes : List ℕ). IsKey bytes b.0) (sym c.as_slice.ensures.value) b.1) is_key b.2 refl refl)
    h.merging.chooses in
    inr (large-chosen (g.D.DeeperFiles.covers c.args.deeper.now) c.take.new.self c.in-Some.key.user.now c.released.result.now c.in_ok-choice.choice g.K.KeyOrder.cmp h.merging.written came rest h.merging.kept entry
    long.0 (ap (λ (x : Key). x.user) same) c.released.ensures.value h.merging.written_are h.merging.well_kept chosen
    (long.1 (subst (λ (f : Facts). IsTrue f.faithful) (sym same_new) t) h.merging.written h.merging.kept (rewritten entry)
    (is-rewritten c.as_slice-3.result.now c.kept_value.result.now c.as_slice-4.result.now entry k.kind (subst (λ (bytes : List ℕ). IsKey bytes entry.key) (sym c.as_slice-3.ensures.value) over_is) (ap (λ (x : Key). x.kind) same) (c.as_slice-4.ensures.value ∙ c.in_ok-copy_to-2.ensures.ok ∙ value_is) c.kept_value.ensures)
    (ap (λ (x : Key). x.user) same) (well-rewritten entry) h.merging.written_are
    (record {
      written = subst (λ s. HasWritten g.K.KeyOrder.cmp c.args.self.now.outputs (g.S.Store.facts s) c.args.numbers.now.next h.merging.written) (sym c.store_mut.ensures.value) h.merging.has_written;
      goes_on = h.goes_on;
    }))))
    c.in_err-write_chosen.ensures.refused)

pub returns-in_err-next-clause-writes : goal.returns-in_err-next-clause-writes
returns-in_err-next-clause-writes g c =
    writes-reads (g.S.Store.facts (g.H.HasStore.store_of c.args.source.now)) (g.S.Store.facts c.write_chosen.new.store) (g.S.Store.facts (g.H.HasStore.store_of c.next.new.source)) (IsMineUpTo c.args.self.now.outputs c.args.numbers.now.next c.write_chosen.new.numbers.next)
    (subst (λ s. WritesTables (g.S.Store.facts s) (g.S.Store.facts c.write_chosen.new.store) (IsMineUpTo c.args.self.now.outputs c.args.numbers.now.next c.write_chosen.new.numbers.next)) c.store_mut.ensures.value c.in_ok-write_chosen.ensures.writes)
    (writes-move g.K.KeyOrder.cmp (g.D.DeeperFiles.covers c.args.deeper.now) g.S.Store.facts g.H.HasStore.store_of g.H.HasStore.with_store g.H.HasStore.gathers g.C.Cursor.facts g.C.Cursor.lists g.C.Cursor.keeps g.C.Cursor.limited g.C.Cursor.torn g.C.Cursor.leaves g.C.Cursor.over
    c.requires.facts g.met.H.HasStore.replaced g.met.H.HasStore.apart c.requires.gathers g.met.C.Cursor.kept
    c.args.self.now.cursor c.next.new.self c.args.source.now c.store_mut.result.now c.write_chosen.new.store c.next.new.source (IsMineUpTo c.args.self.now.outputs c.args.numbers.now.next c.write_chosen.new.numbers.next)
    c.store_mut.ensures.value c.in_ok-write_chosen.ensures.writes c.in_err-next.ensures.stays)

pub returns-clause-writes : goal.returns-clause-writes
returns-clause-writes g c =
    writes-reads (g.S.Store.facts (g.H.HasStore.store_of c.args.source.now)) (g.S.Store.facts c.write_chosen.new.store) (g.S.Store.facts (g.H.HasStore.store_of c.next.new.source)) (IsMineUpTo c.args.self.now.outputs c.args.numbers.now.next c.write_chosen.new.numbers.next)
    (subst (λ s. WritesTables (g.S.Store.facts s) (g.S.Store.facts c.write_chosen.new.store) (IsMineUpTo c.args.self.now.outputs c.args.numbers.now.next c.write_chosen.new.numbers.next)) c.store_mut.ensures.value c.in_ok-write_chosen.ensures.writes)
    (writes-move g.K.KeyOrder.cmp (g.D.DeeperFiles.covers c.args.deeper.now) g.S.Store.facts g.H.HasStore.store_of g.H.HasStore.with_store g.H.HasStore.gathers g.C.Cursor.facts g.C.Cursor.lists g.C.Cursor.keeps g.C.Cursor.limited g.C.Cursor.torn g.C.Cursor.leaves g.C.Cursor.over
    c.requires.facts g.met.H.HasStore.replaced g.met.H.HasStore.apart c.requires.gathers g.met.C.Cursor.kept
    c.args.self.now.cursor c.next.new.self c.args.source.now c.store_mut.result.now c.write_chosen.new.store c.next.new.source (IsMineUpTo c.args.self.now.outputs c.args.numbers.now.next c.write_chosen.new.numbers.next)
    c.store_mut.ensures.value c.in_ok-write_chosen.ensures.writes c.in_ok-next.ensures.stays)

pub returns-in_err-next-clause-refused : goal.returns-in_err-next-clause-refused
returns-in_err-next-clause-refused g c =
    let a : Facts = g.S.Store.facts (g.H.HasStore.store_of c.args.source.now) in
    let b : Facts = g.S.Store.facts c.write_chosen.new.store in
    let d : Facts = g.S.Store.facts (g.H.HasStore.store_of c.next.new.source) in
    let mid = g.H.HasStore.with_store c.args.source.now c.write_chosen.new.store in
    let spent = 2 ^ 62 ≤ c.write_chosen.new.numbers.next in
    let p = err_from_is_err_and c.from_residual-in_err-next.result c.from_residual-in_err-next.ensures.1 in
    rw (p.1, p.2) (refuses-as c.in_err-next.field-0.0 a b d (IsTrue d.faithful → TornAt g.C.Cursor.lists g.C.Cursor.torn next_cut c.args.self.now.cursor mid) (IsTrue d.faithful → TornAt g.C.Cursor.lists g.C.Cursor.torn next_cut c.args.self.now.cursor mid ⊎ g.C.Cursor.limited c.args.self.now.cursor mid) spent
    (IsTrue d.faithful → (came : List InternalEntry) (entry : InternalEntry) (rest : List InternalEntry)
    → IsBetween g.K.KeyOrder.cmp (g.D.DeeperFiles.covers c.args.deeper.now) g.S.Store g.H.HasStore g.C.Cursor c.args.self.now c.args.source.now c.args.numbers.now.next came (entry ∷ rest) → HaveOwnSequences (came ++ entry ∷ rest) → ReadsIntact g.C.Cursor.torn c.args.self.now c.args.source.now → ⊥)
    (IsTrue d.faithful → (came : List InternalEntry) (entry : InternalEntry) (rest : List InternalEntry) → IsBetween g.K.KeyOrder.cmp (g.D.DeeperFiles.covers c.args.deeper.now) g.S.Store g.H.HasStore g.C.Cursor c.args.self.now c.args.source.now c.args.numbers.now.next came (entry ∷ rest)
    → ReadsIntact g.C.Cursor.torn c.args.self.now c.args.source.now → IsLimited g.C.Cursor.limited c.args.self.now c.args.source.now ⊎ AreLarge (map entry_of (came ++ entry ∷ rest))) spent (c.in_ok-write_chosen.ensures.stood ∙ ap (λ s. (g.S.Store.facts s).failures) c.store_mut.ensures.value)
    (λ none t came entry rest h own intact.
    let at : Listed = listed (came ++ entry ∷ rest) (within (came ++ entry ∷ rest) (length came)) in
    intact (next_cut at) (g.met.C.Cursor.torn_kept c.args.self.now.cursor c.args.source.now mid (next_cut at) (still-keeps g.K.KeyOrder.cmp (g.D.DeeperFiles.covers c.args.deeper.now) g.S.Store.facts g.H.HasStore.store_of g.H.HasStore.with_store g.H.HasStore.gathers g.C.Cursor.facts g.C.Cursor.lists g.C.Cursor.keeps g.C.Cursor.limited g.C.Cursor.torn g.C.Cursor.leaves g.C.Cursor.over
    c.requires.facts g.met.H.HasStore.replaced g.met.H.HasStore.apart c.requires.gathers g.met.C.Cursor.kept
    c.args.self.now.cursor c.next.new.self c.args.source.now c.store_mut.result.now c.write_chosen.new.store c.next.new.source (IsMine c.args.self.now.outputs c.args.numbers.now.next)
    c.store_mut.ensures.value (writes-mine (g.S.Store.facts c.store_mut.result.now) (g.S.Store.facts c.write_chosen.new.store) c.args.self.now.outputs c.args.numbers.now.next c.write_chosen.new.numbers.next c.write_chosen.new.numbers.in_range.1 c.in_ok-write_chosen.ensures.writes) h.apart h.ungathered c.in_err-next.ensures.stays t)
    (none t at (still-lists g.K.KeyOrder.cmp (g.D.DeeperFiles.covers c.args.deeper.now) g.S.Store.facts g.H.HasStore.store_of g.H.HasStore.with_store g.H.HasStore.gathers g.C.Cursor.facts g.C.Cursor.lists g.C.Cursor.keeps g.C.Cursor.limited g.C.Cursor.torn g.C.Cursor.leaves g.C.Cursor.over
    c.requires.facts g.met.H.HasStore.replaced g.met.H.HasStore.apart c.requires.gathers g.met.C.Cursor.kept
    c.args.self.now.cursor c.next.new.self c.args.source.now c.store_mut.result.now c.write_chosen.new.store c.next.new.source (IsMine c.args.self.now.outputs c.args.numbers.now.next) at
    c.store_mut.ensures.value (writes-mine (g.S.Store.facts c.store_mut.result.now) (g.S.Store.facts c.write_chosen.new.store) c.args.self.now.outputs c.args.numbers.now.next c.write_chosen.new.numbers.next c.write_chosen.new.numbers.in_range.1 c.in_ok-write_chosen.ensures.writes) h.apart h.ungathered c.in_err-next.ensures.stays t h.left))))
    (λ lim t came entry rest h intact. elim (lim t) [
      | inl none ↦
          let at : Listed = listed (came ++ entry ∷ rest) (within (came ++ entry ∷ rest) (length came)) in
          absurd (intact (next_cut at) (g.met.C.Cursor.torn_kept c.args.self.now.cursor c.args.source.now mid (next_cut at) (still-keeps g.K.KeyOrder.cmp (g.D.DeeperFiles.covers c.args.deeper.now) g.S.Store.facts g.H.HasStore.store_of g.H.HasStore.with_store g.H.HasStore.gathers g.C.Cursor.facts g.C.Cursor.lists g.C.Cursor.keeps g.C.Cursor.limited g.C.Cursor.torn g.C.Cursor.leaves g.C.Cursor.over
          c.requires.facts g.met.H.HasStore.replaced g.met.H.HasStore.apart c.requires.gathers g.met.C.Cursor.kept
          c.args.self.now.cursor c.next.new.self c.args.source.now c.store_mut.result.now c.write_chosen.new.store c.next.new.source (IsMine c.args.self.now.outputs c.args.numbers.now.next)
          c.store_mut.ensures.value (writes-mine (g.S.Store.facts c.store_mut.result.now) (g.S.Store.facts c.write_chosen.new.store) c.args.self.now.outputs c.args.numbers.now.next c.write_chosen.new.numbers.next c.write_chosen.new.numbers.in_range.1 c.in_ok-write_chosen.ensures.writes) h.apart h.ungathered c.in_err-next.ensures.stays t)
          (none (listed (came ++ entry ∷ rest) (within (came ++ entry ∷ rest) (length came))) (still-lists g.K.KeyOrder.cmp (g.D.DeeperFiles.covers c.args.deeper.now) g.S.Store.facts g.H.HasStore.store_of g.H.HasStore.with_store g.H.HasStore.gathers g.C.Cursor.facts g.C.Cursor.lists g.C.Cursor.keeps g.C.Cursor.limited g.C.Cursor.torn g.C.Cursor.leaves g.C.Cursor.over
          c.requires.facts g.met.H.HasStore.replaced g.met.H.HasStore.apart c.requires.gathers g.met.C.Cursor.kept
          c.args.self.now.cursor c.next.new.self c.args.source.now c.store_mut.result.now c.write_chosen.new.store c.next.new.source (IsMine c.args.self.now.outputs c.args.numbers.now.next) (listed (came ++ entry ∷ rest) (within (came ++ entry ∷ rest) (length came)))
          c.store_mut.ensures.value (writes-mine (g.S.Store.facts c.store_mut.result.now) (g.S.Store.facts c.write_chosen.new.store) c.args.self.now.outputs c.args.numbers.now.next c.write_chosen.new.numbers.next c.write_chosen.new.numbers.in_range.1 c.in_ok-write_chosen.ensures.writes) h.apart h.ungathered c.in_err-next.ensures.stays t h.left))))
      | inr past ↦ inl (g.met.C.Cursor.limits_kept c.args.self.now.cursor c.args.source.now mid (still-keeps g.K.KeyOrder.cmp (g.D.DeeperFiles.covers c.args.deeper.now) g.S.Store.facts g.H.HasStore.store_of g.H.HasStore.with_store g.H.HasStore.gathers g.C.Cursor.facts g.C.Cursor.lists g.C.Cursor.keeps g.C.Cursor.limited g.C.Cursor.torn g.C.Cursor.leaves g.C.Cursor.over
          c.requires.facts g.met.H.HasStore.replaced g.met.H.HasStore.apart c.requires.gathers g.met.C.Cursor.kept
          c.args.self.now.cursor c.next.new.self c.args.source.now c.store_mut.result.now c.write_chosen.new.store c.next.new.source (IsMine c.args.self.now.outputs c.args.numbers.now.next)
          c.store_mut.ensures.value (writes-mine (g.S.Store.facts c.store_mut.result.now) (g.S.Store.facts c.write_chosen.new.store) c.args.self.now.outputs c.args.numbers.now.next c.write_chosen.new.numbers.next c.write_chosen.new.numbers.in_range.1 c.in_ok-write_chosen.ensures.writes) h.apart h.ungathered c.in_err-next.ensures.stays t) past)
    ])
    (λ u. u)
    (refuses-moving c.in_err-next.field-0.0 (g.C.Cursor.facts mid) (g.C.Cursor.facts c.next.new.source) b d (TornAt g.C.Cursor.lists g.C.Cursor.torn next_cut c.args.self.now.cursor mid) (g.C.Cursor.limited c.args.self.now.cursor mid) spent
    (c.requires.facts mid ∙ ap g.S.Store.facts (g.met.H.HasStore.replaced c.args.source.now c.write_chosen.new.store)) (c.requires.facts c.next.new.source) c.in_err-next.ensures.still c.in_err-next.ensures.refused))

pub returns-clause-stood : goal.returns-clause-stood
returns-clause-stood g c =
    still-move g.K.KeyOrder.cmp (g.D.DeeperFiles.covers c.args.deeper.now) g.S.Store.facts g.H.HasStore.store_of g.H.HasStore.with_store g.H.HasStore.gathers g.C.Cursor.facts g.C.Cursor.lists g.C.Cursor.keeps g.C.Cursor.limited g.C.Cursor.torn g.C.Cursor.leaves g.C.Cursor.over
    c.requires.facts g.met.H.HasStore.replaced g.met.H.HasStore.apart c.requires.gathers g.met.C.Cursor.kept
    c.args.source.now c.store_mut.result.now c.write_chosen.new.store c.next.new.source c.store_mut.ensures.value c.in_ok-write_chosen.ensures.stood c.in_ok-next.ensures.still

pub returns-clause-limits : goal.returns-clause-limits
returns-clause-limits g c = λ came entry rest t h past.
    let mid = g.H.HasStore.with_store c.args.source.now c.write_chosen.new.store in
    g.met.C.Cursor.limits_kept c.args.self.now.cursor c.args.source.now mid (still-keeps g.K.KeyOrder.cmp (g.D.DeeperFiles.covers c.args.deeper.now) g.S.Store.facts g.H.HasStore.store_of g.H.HasStore.with_store g.H.HasStore.gathers g.C.Cursor.facts g.C.Cursor.lists g.C.Cursor.keeps g.C.Cursor.limited g.C.Cursor.torn g.C.Cursor.leaves g.C.Cursor.over
    c.requires.facts g.met.H.HasStore.replaced g.met.H.HasStore.apart c.requires.gathers g.met.C.Cursor.kept
    c.args.self.now.cursor c.next.new.self c.args.source.now c.store_mut.result.now c.write_chosen.new.store c.next.new.source (IsMine c.args.self.now.outputs c.args.numbers.now.next)
    c.store_mut.ensures.value (writes-mine (g.S.Store.facts c.store_mut.result.now) (g.S.Store.facts c.write_chosen.new.store) c.args.self.now.outputs c.args.numbers.now.next c.write_chosen.new.numbers.next c.write_chosen.new.numbers.in_range.1 c.in_ok-write_chosen.ensures.writes) h.apart h.ungathered c.in_ok-next.ensures.stays t)
    (c.in_ok-next.ensures.stays.limit (subst (λ (f : Facts). IsTrue f.faithful) (sym (c.requires.facts c.next.new.source)) t) past)

pub returns-clause-torn : goal.returns-clause-torn
returns-clause-torn g c = λ came entry rest t h cut torn.
    let mid = g.H.HasStore.with_store c.args.source.now c.write_chosen.new.store in
    g.met.C.Cursor.torn_kept c.args.self.now.cursor c.args.source.now mid cut (still-keeps g.K.KeyOrder.cmp (g.D.DeeperFiles.covers c.args.deeper.now) g.S.Store.facts g.H.HasStore.store_of g.H.HasStore.with_store g.H.HasStore.gathers g.C.Cursor.facts g.C.Cursor.lists g.C.Cursor.keeps g.C.Cursor.limited g.C.Cursor.torn g.C.Cursor.leaves g.C.Cursor.over
    c.requires.facts g.met.H.HasStore.replaced g.met.H.HasStore.apart c.requires.gathers g.met.C.Cursor.kept
    c.args.self.now.cursor c.next.new.self c.args.source.now c.store_mut.result.now c.write_chosen.new.store c.next.new.source (IsMine c.args.self.now.outputs c.args.numbers.now.next)
    c.store_mut.ensures.value (writes-mine (g.S.Store.facts c.store_mut.result.now) (g.S.Store.facts c.write_chosen.new.store) c.args.self.now.outputs c.args.numbers.now.next c.write_chosen.new.numbers.next c.write_chosen.new.numbers.in_range.1 c.in_ok-write_chosen.ensures.writes) h.apart h.ungathered c.in_ok-next.ensures.stays t)
    (c.in_ok-next.ensures.stays.tear (subst (λ (f : Facts). IsTrue f.faithful) (sym (c.requires.facts c.next.new.source)) t) cut torn)

pub returns-in_err-write_chosen-clause-leaves : goal.returns-in_err-write_chosen-clause-leaves
returns-in_err-write_chosen-clause-leaves g c =
    leaves-written g.S.Store.facts g.H.HasStore.store_of g.H.HasStore.with_store g.C.Cursor.facts g.C.Cursor.keeps g.C.Cursor.limited g.C.Cursor.torn g.C.Cursor.leaves g.C.Cursor.over (IsMineUpTo c.args.self.now.outputs c.args.numbers.now.next c.write_chosen.new.numbers.next)
    c.args.self.now.cursor c.args.source.now c.store_mut.result.now c.write_chosen.new.store c.store_mut.ensures.value c.in_err-write_chosen.ensures.writes

pub returns-in_err-next-clause-leaves : goal.returns-in_err-next-clause-leaves
returns-in_err-next-clause-leaves g c =
    leaves-moved g.S.Store.facts g.H.HasStore.store_of g.H.HasStore.with_store g.C.Cursor.facts g.C.Cursor.keeps g.C.Cursor.limited g.C.Cursor.torn g.C.Cursor.leaves g.C.Cursor.over (IsMineUpTo c.args.self.now.outputs c.args.numbers.now.next c.write_chosen.new.numbers.next)
    c.args.self.now.cursor c.next.new.self c.args.source.now c.store_mut.result.now c.write_chosen.new.store c.next.new.source c.store_mut.ensures.value c.in_ok-write_chosen.ensures.writes c.in_err-next.ensures.stays

pub returns-clause-leaves : goal.returns-clause-leaves
returns-clause-leaves g c =
    leaves-moved g.S.Store.facts g.H.HasStore.store_of g.H.HasStore.with_store g.C.Cursor.facts g.C.Cursor.keeps g.C.Cursor.limited g.C.Cursor.torn g.C.Cursor.leaves g.C.Cursor.over (IsMineUpTo c.args.self.now.outputs c.args.numbers.now.next c.write_chosen.new.numbers.next)
    c.args.self.now.cursor c.next.new.self c.args.source.now c.store_mut.result.now c.write_chosen.new.store c.next.new.source c.store_mut.ensures.value c.in_ok-write_chosen.ensures.writes c.in_ok-next.ensures.stays

pub returns-then-not-comes_behind-clause-writes : goal.returns-then-not-comes_behind-clause-writes
returns-then-not-comes_behind-clause-writes g c = writes-nothing (g.S.Store.facts (g.H.HasStore.store_of c.args.source.now)) (IsMineUpTo c.args.self.now.outputs c.args.numbers.now.next c.args.numbers.now.next)

pub returns-in_err-copy_to-clause-writes : goal.returns-in_err-copy_to-clause-writes
returns-in_err-copy_to-clause-writes g c = writes-nothing (g.S.Store.facts (g.H.HasStore.store_of c.args.source.now)) (IsMineUpTo c.args.self.now.outputs c.args.numbers.now.next c.args.numbers.now.next)

pub returns-in_err-copy_to-2-clause-writes : goal.returns-in_err-copy_to-2-clause-writes
returns-in_err-copy_to-2-clause-writes g c = writes-nothing (g.S.Store.facts (g.H.HasStore.store_of c.args.source.now)) (IsMineUpTo c.args.self.now.outputs c.args.numbers.now.next c.args.numbers.now.next)

pub returns-in_default-clause-writes : goal.returns-in_default-clause-writes
returns-in_default-clause-writes g c = writes-nothing (g.S.Store.facts (g.H.HasStore.store_of c.args.source.now)) (IsMineUpTo c.args.self.now.outputs c.args.numbers.now.next c.args.numbers.now.next)

pub returns-in_err-choice-clause-writes : goal.returns-in_err-choice-clause-writes
returns-in_err-choice-clause-writes g c = writes-nothing (g.S.Store.facts (g.H.HasStore.store_of c.args.source.now)) (IsMineUpTo c.args.self.now.outputs c.args.numbers.now.next c.args.numbers.now.next)
