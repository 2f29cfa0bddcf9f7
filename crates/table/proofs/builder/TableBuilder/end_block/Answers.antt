use Rattle.std.proofs.Common.{◌≡◌, ◌+◌, [], List, ℕ, Some, length, refl, sym, ap, ◌∙◌, subst}
use Rattle.std.proofs.lemmas.Result.{err_from_is_err_and}
use Rattle.std.specs.Option.{IsSome}
use Rattle.std.specs.Prelude.{string_bytes}
use Rattle.block.specs.Block.{IsBlock}
use Rattle.block.specs.Built.{written_length}
use Rattle.block.specs.Written.{Added, last_key, key_behind}
use Rattle.ikey.specs.Below.{IsBelowInternal}
use Rattle.ikey.specs.Entries.{Pair}
use Rattle.table.specs.Building.{Building}
use Rattle.table.specs.Steps.{IsEnded, Appended}
use Rattle.table.specs.Stored.{stored}
use Rattle.table.specs.Writing.{NeedsLongIndex}
use Rattle.table.proofs.Kept.{place_rises, kept_place, kept_moved, long_index, block_ended}
use Rattle.table.proofs.Rising.{some_last}
use Rattle.table.proofs.Storing.{gives_up, writes_none}
use Rattle.table.proofs.builder.TableBuilder.end_block.Goals as goal

pub push_place-requires : goal.push_place-requires
push_place-requires g c =
    let b = c.self.inside in
    let key = c.last_key.result.now in
    let behind : key ≡ key_behind [] b.block.pairs = c.last_key.ensures ∙ ap (λ (v : Added). key_behind [] v.pairs) c.replace-block.ensures.value in
    let last : last_key b.block.pairs ≡ Some key = some_last b.block.pairs key (subst (λ (v : Building). IsSome (last_key v.block)) (sym c.self.view_is) c.requires.some) behind in
    record { rises = place_rises g.K.KeyOrder.cmp g.met.K.KeyOrder.total b.offset b.index b.block key c.self.invariant last }

pub invariant_of-self : goal.invariant_of-self
invariant_of-self g c =
    let b = c.self.inside in
    let key = c.last_key.result.now in
    let behind : key ≡ key_behind [] b.block.pairs = c.last_key.ensures ∙ ap (λ (v : Added). key_behind [] v.pairs) c.replace-block.ensures.value in
    let last : last_key b.block.pairs ≡ Some key = some_last b.block.pairs key (subst (λ (v : Building). IsSome (last_key v.block)) (sym c.self.view_is) c.requires.some) behind in
    kept_place g.K.KeyOrder.cmp g.met.K.KeyOrder.total b.offset b.index b.block c.push_place.new.index c.replace-block.new.dest key c.self.invariant last c.push_place.ensures.kept c.push_place.ensures.few (c.replace-block.ensures.after ∙ c.reusing-next.ensures)

pub invariant_of-self-in_err-bytes : goal.invariant_of-self-in_err-bytes
invariant_of-self-in_err-bytes g c =
    let b = c.self.inside in
    let key = c.last_key.result.now in
    let behind : key ≡ key_behind [] b.block.pairs = c.last_key.ensures ∙ ap (λ (v : Added). key_behind [] v.pairs) c.replace-block.ensures.value in
    let last : last_key b.block.pairs ≡ Some key = some_last b.block.pairs key (subst (λ (v : Building). IsSome (last_key v.block)) (sym c.self.view_is) c.requires.some) behind in
    kept_place g.K.KeyOrder.cmp g.met.K.KeyOrder.total b.offset b.index b.block c.push_place.new.index c.replace-block.new.dest key c.self.invariant last c.push_place.ensures.kept c.push_place.ensures.few (c.replace-block.ensures.after ∙ c.reusing-next.ensures)

pub invariant_of-self-in_err-put_trailer : goal.invariant_of-self-in_err-put_trailer
invariant_of-self-in_err-put_trailer g c =
    let b = c.self.inside in
    let key = c.last_key.result.now in
    let behind : key ≡ key_behind [] b.block.pairs = c.last_key.ensures ∙ ap (λ (v : Added). key_behind [] v.pairs) c.replace-block.ensures.value in
    let last : last_key b.block.pairs ≡ Some key = some_last b.block.pairs key (subst (λ (v : Building). IsSome (last_key v.block)) (sym c.self.view_is) c.requires.some) behind in
    kept_place g.K.KeyOrder.cmp g.met.K.KeyOrder.total b.offset b.index b.block c.push_place.new.index c.replace-block.new.dest key c.self.invariant last c.push_place.ensures.kept c.push_place.ensures.few (c.replace-block.ensures.after ∙ c.reusing-next.ensures)

pub invariant_of-self-in_err-append : goal.invariant_of-self-in_err-append
invariant_of-self-in_err-append g c =
    let b = c.self.inside in
    let key = c.last_key.result.now in
    let behind : key ≡ key_behind [] b.block.pairs = c.last_key.ensures ∙ ap (λ (v : Added). key_behind [] v.pairs) c.replace-block.ensures.value in
    let last : last_key b.block.pairs ≡ Some key = some_last b.block.pairs key (subst (λ (v : Building). IsSome (last_key v.block)) (sym c.self.view_is) c.requires.some) behind in
    kept_place g.K.KeyOrder.cmp g.met.K.KeyOrder.total b.offset b.index b.block c.push_place.new.index c.replace-block.new.dest key c.self.invariant last c.push_place.ensures.kept c.push_place.ensures.few (c.replace-block.ensures.after ∙ c.reusing-next.ensures)

pub invariant_of-self-2 : goal.invariant_of-self-2
invariant_of-self-2 g c =
    let b = c.self.inside in
    let key = c.last_key.result.now in
    let behind : key ≡ key_behind [] b.block.pairs = c.last_key.ensures ∙ ap (λ (v : Added). key_behind [] v.pairs) c.replace-block.ensures.value in
    let last : last_key b.block.pairs ≡ Some key = some_last b.block.pairs key (subst (λ (v : Building). IsSome (last_key v.block)) (sym c.self.view_is) c.requires.some) behind in
    let added = c.in_ok-push_place.ensures.added in
    let place : Pair = record { key = key; value = added.0 } in
    let kept = kept_place g.K.KeyOrder.cmp g.met.K.KeyOrder.total b.offset b.index b.block c.push_place.new.index c.replace-block.new.dest key c.self.invariant last c.push_place.ensures.kept c.push_place.ensures.few (c.replace-block.ensures.after ∙ c.reusing-next.ensures) in
    kept_moved g.K.KeyOrder.cmp b.offset c.size.result b.index b.block c.push_place.new.index c.replace-block.new.dest place c.self.invariant kept added.2 c.size.ensures.range

pub returns-in_err-push_place-clause-refused : goal.returns-in_err-push_place-clause-refused
returns-in_err-push_place-clause-refused g c =
    let b = c.self.inside in
    let key = c.last_key.result.now in
    let behind : key ≡ key_behind [] b.block.pairs = c.last_key.ensures ∙ ap (λ (v : Added). key_behind [] v.pairs) c.replace-block.ensures.value in
    let last : last_key b.block.pairs ≡ Some key = some_last b.block.pairs key (subst (λ (v : Building). IsSome (last_key v.block)) (sym c.self.view_is) c.requires.some) behind in
    let long : c.size.result ≡ written_length b.block = c.size.ensures.size ∙ ap written_length c.replace-block.ensures.value in
    let p = err_from_is_err_and c.from_residual.result c.from_residual.ensures.1 in
    rw (p.1, p.2)
    (gives_up c.in_err-push_place.field-0.0 _ _ _ (NeedsLongIndex c.args.self.now c.args.self.now.block)
    (λ h. subst (λ (v : Building). NeedsLongIndex v v.block) c.self.view_is (long_index b.offset b.index b.block key c.size.result c.self.invariant.index_interval c.self.invariant.block_interval long last h))
    refl c.in_err-push_place.ensures.refused)

pub returns-clause-ended : goal.returns-clause-ended
returns-clause-ended g c =
    let b = c.self.inside in
    let key = c.last_key.result.now in
    let behind : key ≡ key_behind [] b.block.pairs = c.last_key.ensures ∙ ap (λ (v : Added). key_behind [] v.pairs) c.replace-block.ensures.value in
    let last : last_key b.block.pairs ≡ Some key = some_last b.block.pairs key (subst (λ (v : Building). IsSome (last_key v.block)) (sym c.self.view_is) c.requires.some) behind in
    let long : c.size.result ≡ written_length b.block = c.size.ensures.size ∙ ap written_length c.replace-block.ensures.value in
    let bytes = c.in_ok-bytes.bytes.items in
    let same : c.size.result ≡ length bytes = c.size.ensures.written bytes c.in_ok-bytes.ensures.written in
    let is = subst (λ (v : Added). IsBlock (IsBelowInternal g.K.KeyOrder.cmp) bytes v.pairs) c.replace-block.ensures.value c.in_ok-bytes.ensures.block in
    let old = g.S.Store.facts c.args.store.now in
    let new = g.S.Store.facts c.append.new.store in
    let put : c.deref-2.result.now ≡ stored bytes = c.deref-2.ensures.value ∙ c.in_ok-put_trailer.ensures in
    let appended = subst (λ (x : List ℕ). Appended old new (string_bytes b.name) x) put (subst (λ (n : List ℕ). Appended old new n c.deref-2.result.now) c.deref.ensures c.in_ok-append.ensures.appended) in
    let next : Building = record {
      name = string_bytes b.name;
      block_bytes = b.block_bytes;
      created = b.created;
      offset = b.offset + (c.size.result + 5);
      index = c.push_place.new.index.pairs;
      block = c.replace-block.new.dest.pairs;
      hashes = b.filter;
    } in
    subst (λ (v : Building). IsEnded g.K.KeyOrder.cmp v next old new) c.self.view_is
    (block_ended g.K.KeyOrder.cmp (string_bytes b.name) b.block_bytes b.created b.offset b.filter b.index b.block c.push_place.new.index c.replace-block.new.dest key bytes c.size.result old new
    c.self.invariant.index_interval c.self.invariant.block_interval (c.replace-block.ensures.after ∙ c.reusing-next.ensures) long same last is c.in_ok-push_place.ensures.added appended)

pub returns-in_err-push_place-clause-writes : goal.returns-in_err-push_place-clause-writes
returns-in_err-push_place-clause-writes g c = writes_none (g.S.Store.facts c.args.store.now) c.args.self.now.name

pub returns-in_err-bytes-clause-writes : goal.returns-in_err-bytes-clause-writes
returns-in_err-bytes-clause-writes g c = writes_none (g.S.Store.facts c.args.store.now) c.args.self.now.name

pub returns-in_err-put_trailer-clause-writes : goal.returns-in_err-put_trailer-clause-writes
returns-in_err-put_trailer-clause-writes g c = writes_none (g.S.Store.facts c.args.store.now) c.args.self.now.name
