use Rattle.std.proofs.Common.{List, length, sym, subst}
use Rattle.std.proofs.lemmas.Bool.{ltb-true}
use Rattle.ikey.specs.KeyViews.{key_of}
use Rattle.ikey.specs.Keys.{IsKey}
use Rattle.table_access.proofs.Ruling.{not_admitted, not_bounded, place_there}
use Rattle.table_access.proofs.newest.is_denied.Goals as goal

pub returns-then-same_bytes : goal.returns-then-same_bytes
returns-then-same_bytes g c =
    let frame = c.args.table.now.frame in
    let l = c.in-Some.ensures.lookup in
    let there = place_there c.places.result.now frame.places c.args.start c.in-Some.place.now c.places.ensures (ltb-true c.args.start (length c.places.result.now) (sym l.0)) l.1 in
    let bound = subst (λ (bytes : List _). IsKey bytes (key_of c.in-Some-unpack.bound)) c.as_slice.ensures c.in-Some-unpack.ensures.found in
    not_bounded frame c.args.start c.args.key.now c.in-Some.place.now there (key_of c.in-Some-unpack.bound) bound c.if-same_bytes.ensures

pub returns-then-admits : goal.returns-then-admits
returns-then-admits g c =
    let frame = c.args.table.now.frame in
    let l = c.in-Some.ensures.lookup in
    let there = place_there c.places.result.now frame.places c.args.start c.in-Some.place.now c.places.ensures (ltb-true c.args.start (length c.places.result.now) (sym l.0)) l.1 in
    not_admitted frame c.args.start c.args.key.now c.in-Some.place.now there c.if-admits.ensures

pub returns : goal.returns
returns g c =
    let l = c.in-Some.ensures.lookup in
    record {
      place = c.in-Some.place.now;
      bound = key_of c.in-Some-unpack.bound;
      place_is = place_there c.places.result.now c.args.table.now.frame.places c.args.start c.in-Some.place.now c.places.ensures (ltb-true c.args.start (length c.places.result.now) (sym l.0)) l.1;
      bound_is = subst (λ (bytes : List _). IsKey bytes (key_of c.in-Some-unpack.bound)) c.as_slice.ensures c.in-Some-unpack.ensures.found;
      other = c.if-same_bytes.ensures;
      denied = c.if-admits.ensures;
    }
