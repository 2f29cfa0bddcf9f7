use Rattle.std.proofs.Common.{◌≡◌, ◌+◌, ℕ, List, ◌∷◌, ◌++◌, length, map, sym, ◌∙◌, ap, subst}
use Rattle.std.proofs.lemmas.Result.{err_from_is_err_and, IfErr-weaker}
use Rattle.store.specs.Files.{Facts}
use Rattle.table.specs.Frame.{HasFooter, IsFrame, handles_of}
use Rattle.table.specs.Refusals.{IsUnsupported, IsFilterUnsupported, IsFrameUnsupported, IsFrameDamaged}
use Rattle.table.specs.Stored.{AreSeparate}
use Rattle.table.specs.declared.handle.Handle.{Handle}
use Rattle.table.specs.declared.handle.Place.{Place}
use Rattle.table.proofs.FrameParts.{EndsHere, FilterHere, IndexHere, NoFilter, NoIndex, no_ends, no_filter, unsupported_filter, unsupported_index, no_places, not_separate, framed, frame_supported, frame_refused}
use Rattle.table.proofs.Steps.{refuses_more, refuses_after, reads_then, finds_first, finds_second, finds_both, finds_more, finds_three, known}
use Rattle.table.proofs.table.Table.open.Goals as goal

pub returns-in_err-ends-clause-told : goal.returns-in_err-ends-clause-told
returns-in_err-ends-clause-told g c =
    let p = err_from_is_err_and c.from_residual.result c.from_residual.ensures.1 in
    rw (p.1, p.2)
    (refuses_more _ _ _ c.args.name.now (λ (file : List ℕ). (before : ℕ) (metaindex index : Handle) → HasFooter file before metaindex index → ⊥) (IsFrameDamaged g.K.KeyOrder.cmp)
    (λ (file : List ℕ). ⊥) IsFrameUnsupported (λ file none. no_ends g.K.KeyOrder.cmp file none) (λ file none. absurd none) c.in_err-ends.ensures.refused)

pub returns-in_err-ends-clause-refused : goal.returns-in_err-ends-clause-refused
returns-in_err-ends-clause-refused g c =
    IfErr-weaker c.from_residual.result _ _ (λ e h. frame_refused g.K.KeyOrder.cmp e (g.S.Store.facts c.args.store.now) (g.S.Store.facts c.read_ends.new.store) c.args.name.now h) (returns-in_err-ends-clause-told g c)

pub returns-in_err-named-clause-told : goal.returns-in_err-named-clause-told
returns-in_err-named-clause-told g c =
    let p = err_from_is_err_and c.from_residual-in_err-named.result c.from_residual-in_err-named.ensures.1 in
    let e = c.in_ok-ends.ends in
    rw (p.1, p.2)
    (refuses_after _ (g.S.Store.facts c.args.store.now) (g.S.Store.facts c.read_ends.new.store) (g.S.Store.facts c.read_filter.new.store) c.args.name.now (EndsHere e.before e.footer.metaindex e.footer.index)
    (NoFilter e.footer.metaindex) (IsFrameDamaged g.K.KeyOrder.cmp) (λ (file : List ℕ). IsFilterUnsupported file e.footer.metaindex) IsFrameUnsupported
    (λ file h none. no_filter g.K.KeyOrder.cmp file e.before e.footer.metaindex e.footer.index h none) (λ file h u. unsupported_filter file e.before e.footer.metaindex e.footer.index h u)
    c.in_ok-ends.ensures.stood c.in_ok-ends.ensures.reads c.in_err-named.ensures.reads c.in_ok-ends.ensures.found c.in_err-named.ensures.refused)

pub returns-in_err-named-clause-refused : goal.returns-in_err-named-clause-refused
returns-in_err-named-clause-refused g c =
    IfErr-weaker c.from_residual-in_err-named.result _ _ (λ e h. frame_refused g.K.KeyOrder.cmp e (g.S.Store.facts c.args.store.now) (g.S.Store.facts c.read_filter.new.store) c.args.name.now h) (returns-in_err-named-clause-told g c)

pub returns-in_err-places-clause-told : goal.returns-in_err-places-clause-told
returns-in_err-places-clause-told g c =
    let p = err_from_is_err_and c.from_residual-in_err-places.result c.from_residual-in_err-places.ensures.1 in
    let e = c.in_ok-ends.ends in
    let cmp = g.K.KeyOrder.cmp in
    let named = c.in_ok-named.named in
    let filter = c.in_ok-named.filter in
    let a : Facts = g.S.Store.facts c.args.store.now in
    let b : Facts = g.S.Store.facts c.read_ends.new.store in
    let d : Facts = g.S.Store.facts c.read_filter.new.store in
    let name = c.args.name.now in
    rw (p.1, p.2)
    (refuses_after _ a d (g.S.Store.facts c.read_places.new.store) name (λ (file : List ℕ). EndsHere e.before e.footer.metaindex e.footer.index file × FilterHere e.footer.metaindex named filter file)
    (NoIndex cmp e.footer.index) (IsFrameDamaged cmp) (λ (file : List ℕ). IsUnsupported file e.footer.index) IsFrameUnsupported
    (λ file h none. no_places cmp file e.before e.footer.metaindex e.footer.index named filter h.0 h.1 none) (λ file h u. unsupported_index file e.before e.footer.metaindex e.footer.index named filter h.0 h.1 u)
    (c.in_ok-named.ensures.stood ∙ c.in_ok-ends.ensures.stood) (reads_then a b d c.in_ok-ends.ensures.reads c.in_ok-named.ensures.reads) c.in_err-places.ensures.reads
    (finds_both a d name (EndsHere e.before e.footer.metaindex e.footer.index) (FilterHere e.footer.metaindex named filter) (λ (file : List ℕ). EndsHere e.before e.footer.metaindex e.footer.index file × FilterHere e.footer.metaindex named filter file)
    (λ file h k. (h, k)) (finds_first a b d name (EndsHere e.before e.footer.metaindex e.footer.index) c.in_ok-named.ensures.reads c.in_ok-ends.ensures.found)
    (finds_second a b d name (FilterHere e.footer.metaindex named filter) c.in_ok-ends.ensures.reads c.in_ok-named.ensures.reads c.in_ok-named.ensures.found)) c.in_err-places.ensures.refused)

pub returns-in_err-places-clause-refused : goal.returns-in_err-places-clause-refused
returns-in_err-places-clause-refused g c =
    IfErr-weaker c.from_residual-in_err-places.result _ _ (λ e h. frame_refused g.K.KeyOrder.cmp e (g.S.Store.facts c.args.store.now) (g.S.Store.facts c.read_places.new.store) c.args.name.now h) (returns-in_err-places-clause-told g c)

pub returns-then-not-are_separate-clause-told : goal.returns-then-not-are_separate-clause-told
returns-then-not-are_separate-clause-told g c =
    let e = c.in_ok-ends.ends in
    let places : List Place = c.in_ok-places.places.items in
    let a : Facts = g.S.Store.facts c.args.store.now in
    let b : Facts = g.S.Store.facts c.read_ends.new.store in
    let d : Facts = g.S.Store.facts c.read_filter.new.store in
    let z : Facts = g.S.Store.facts c.read_places.new.store in
    rw c.note_parts.ensures.same
    (known a z c.args.name.now
    (λ (file : List ℕ). HasFooter file e.before e.footer.metaindex e.footer.index × FilterHere e.footer.metaindex c.in_ok-named.named c.in_ok-named.filter file × IndexHere g.K.KeyOrder.cmp e.footer.index places file)
    (IsFrameDamaged g.K.KeyOrder.cmp)
    (λ file h. not_separate g.K.KeyOrder.cmp file e.before e.footer.metaindex e.footer.index c.in_ok-named.named c.in_ok-named.filter places h.0 h.1 h.2
    (λ apart. c.if-not-are_separate.ensures (subst (AreSeparate e.before) (sym (c.deref_mut.ensures.value ∙ c.in_ok-handles.ensures
    ∙ ap (λ (t : List Place). e.footer.metaindex ∷ e.footer.index ∷ (handles_of c.in_ok-named.named ++ map (λ (place : Place). place.handle) t)) c.deref.ensures.value)) apart)))
    (finds_three a b d z c.args.name.now (λ (file : List ℕ). HasFooter file e.before e.footer.metaindex e.footer.index) (FilterHere e.footer.metaindex c.in_ok-named.named c.in_ok-named.filter)
    (IndexHere g.K.KeyOrder.cmp e.footer.index places)
    c.in_ok-ends.ensures.reads c.in_ok-named.ensures.reads c.in_ok-places.ensures.reads c.in_ok-ends.ensures.found c.in_ok-named.ensures.found c.in_ok-places.ensures.found))

pub returns-then-not-are_separate-clause-refused : goal.returns-then-not-are_separate-clause-refused
returns-then-not-are_separate-clause-refused g c = λ t file there. (returns-then-not-are_separate-clause-told g c t file there).0

pub returns-clause-found : goal.returns-clause-found
returns-clause-found g c =
    let e = c.in_ok-ends.ends in
    let places : List Place = c.in_ok-places.places.items in
    let a : Facts = g.S.Store.facts c.args.store.now in
    let b : Facts = g.S.Store.facts c.read_ends.new.store in
    let d : Facts = g.S.Store.facts c.read_filter.new.store in
    let z : Facts = g.S.Store.facts c.read_places.new.store in
    finds_more a z c.args.name.now
    (λ (file : List ℕ). HasFooter file e.before e.footer.metaindex e.footer.index × FilterHere e.footer.metaindex c.in_ok-named.named c.in_ok-named.filter file × IndexHere g.K.KeyOrder.cmp e.footer.index places file)
    (λ (file : List ℕ). IsFrame g.K.KeyOrder.cmp file (record { places = places; filter = c.in_ok-named.filter }))
    (λ file h. framed g.K.KeyOrder.cmp file e.before e.footer.metaindex e.footer.index c.in_ok-named.named c.in_ok-named.filter places h.0 h.1 h.2
    (subst (AreSeparate e.before) (c.deref_mut.ensures.value ∙ c.in_ok-handles.ensures
    ∙ ap (λ (t : List Place). e.footer.metaindex ∷ e.footer.index ∷ (handles_of c.in_ok-named.named ++ map (λ (place : Place). place.handle) t)) c.deref.ensures.value) c.if-not-are_separate.ensures))
    (finds_three a b d z c.args.name.now (λ (file : List ℕ). HasFooter file e.before e.footer.metaindex e.footer.index) (FilterHere e.footer.metaindex c.in_ok-named.named c.in_ok-named.filter)
    (IndexHere g.K.KeyOrder.cmp e.footer.index places)
    c.in_ok-ends.ensures.reads c.in_ok-named.ensures.reads c.in_ok-places.ensures.reads c.in_ok-ends.ensures.found c.in_ok-named.ensures.found c.in_ok-places.ensures.found)

pub returns-clause-supported : goal.returns-clause-supported
returns-clause-supported g c =
    let e = c.in_ok-ends.ends in
    let places : List Place = c.in_ok-places.places.items in
    let a : Facts = g.S.Store.facts c.args.store.now in
    let b : Facts = g.S.Store.facts c.read_ends.new.store in
    let d : Facts = g.S.Store.facts c.read_filter.new.store in
    let z : Facts = g.S.Store.facts c.read_places.new.store in
    known a z c.args.name.now
    (λ (file : List ℕ). HasFooter file e.before e.footer.metaindex e.footer.index × FilterHere e.footer.metaindex c.in_ok-named.named c.in_ok-named.filter file × IndexHere g.K.KeyOrder.cmp e.footer.index places file)
    (λ (file : List ℕ). IsFrameUnsupported file → ⊥) (λ file h. frame_supported file e.before e.footer.metaindex e.footer.index h.0 h.1.2 h.2.1)
    (finds_three a b d z c.args.name.now (λ (file : List ℕ). HasFooter file e.before e.footer.metaindex e.footer.index) (FilterHere e.footer.metaindex c.in_ok-named.named c.in_ok-named.filter)
    (IndexHere g.K.KeyOrder.cmp e.footer.index places)
    c.in_ok-ends.ensures.reads c.in_ok-named.ensures.reads c.in_ok-places.ensures.reads c.in_ok-ends.ensures.found c.in_ok-named.ensures.found c.in_ok-places.ensures.found)

pub returns-clause-before : goal.returns-clause-before
returns-clause-before g c =
    let e = c.in_ok-ends.ends in
    let a : Facts = g.S.Store.facts c.args.store.now in
    let b : Facts = g.S.Store.facts c.read_ends.new.store in
    let d : Facts = g.S.Store.facts c.read_filter.new.store in
    let z : Facts = g.S.Store.facts c.read_places.new.store in
    finds_first a b z c.args.name.now (λ (file : List ℕ). e.before + 48 ≡ length file) (reads_then b d z c.in_ok-named.ensures.reads c.in_ok-places.ensures.reads) c.in_ok-ends.ensures.before
