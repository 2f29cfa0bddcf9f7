-- The pairs of a walk as they are printed.
use Rattle.std.proofs.Common.{◌≡◌, ◌≤◌, ◌+◌, ◌-◌, ℕ, suc, Bool, true, false, cond, IsTrue, List, [], ◌∷◌, ◌++◌, length, take, Option, Some, None, Result, Ok, Err, inl, inr, refl, sym, ap, subst, ◌∙◌, append-nil, append_assoc, arith}
use Rattle.std.specs.Prelude.{IfErr, IfOk, IfSome, IsSome}
use Rattle.std.specs.Cmp.{IsTotalOrder}
use Rattle.std.specs.Io.KnownBytes.{Appends}
use Rattle.std.proofs.lemmas.List.{length-append, take_all, take_at}
use Rattle.coding.specs.declared.error.DbError.{DbError}
use Rattle.coding.specs.declared.error.DbError.TheVariants as error
use Rattle.ikey.specs.Orders.{Order}
use Rattle.ikey.specs.Views.{Contents}
use Rattle.store.specs.Files.{Facts}
use Rattle.table.specs.Reading.{Reads}
use Rattle.table.proofs.Steps.{reads_then}
use Rattle.machine.specs.Machine.{Walk}
use Rattle.script.specs.Drive.{Shows}
use Rattle.script.proofs.Written.{appends_none, appends_then}
use Rattle.engine.specs.Ranges.{Cmp, Pair}
use Rattle.reader.specs.declared.reader.Reader.{Reader}
use Rattle.reader.specs.declared.reader.ReaderWalk.{ReaderWalk}
use Rattle.reader.specs.Readers.{ShowsMap, facts_of, scan_of, whole_of}
use Rattle.reader.specs.Moving.{BeginsWalk}
use Rattle.browse.specs.declared.choice.Choice.{Choice}
use Rattle.browse.specs.declared.style.Style.{Style}
use Rattle.browse.specs.Browsing.{IsTold, end_status}
use Rattle.browse.specs.Choices.{at_most}
use Rattle.browse.specs.Forms.{line_in, lines_in}
use Rattle.browse.specs.internal.Lists.{behind, reach, settled, starting, all_of, in_reach}
use Rattle.browse.specs.internal.Walking.{Ahead, Arrives, Moves, RefusesMove, Stands}
use Rattle.browse.specs.internal.Printing.{Ends, GoesOver, Prints, PrintsMap, TellsMap}
use Rattle.browse.proofs.Lists.{reaches_range}
use Rattle.browse.proofs.Steps.{refused_later}

-- ---- the pair to which a walk came

module _ {S K : Type 0} {g : _} (cmp : Cmp) (facts : S → Facts) (choice : Choice) (Before : Walk → List Pair → Type 0) (old new : Reader S K) (before after : ReaderWalk K g) where
  settles : (reader : Reader S K) (walk : ReaderWalk K g) (pairs ahead : List Pair) (found : Option Pair) → Arrives cmp facts choice.backwards all_of reader walk pairs ahead (Ok found)
      → Arrives cmp facts choice.backwards (reach cmp choice) reader walk pairs ahead (Ok (settled cmp choice found))
  settles reader walk pairs ahead None h = ap (reach cmp choice) h
  settles reader walk pairs ahead (Some pair) h = at (in_reach cmp choice pair.0) refl
    where
      rest : List Pair
      rest = reach cmp choice (behind choice.backwards h.0 pairs)

      at : (b : Bool) → in_reach cmp choice pair.0 ≡ b → Arrives cmp facts choice.backwards (reach cmp choice) reader walk pairs ahead (Ok (cond b (Some pair) None))
      at true is = (h.0, h.1, h.2, ap (reach cmp choice) h.3 ∙ ap (λ (b : Bool). cond b (pair ∷ reach cmp choice (behind choice.backwards h.0 pairs)) []) is)
      at false is = ap (reach cmp choice) h.3 ∙ ap (λ (b : Bool). cond b (pair ∷ reach cmp choice (behind choice.backwards h.0 pairs)) []) is

  pub moves_within : (found : Option Pair) (result : Option Pair) → result ≡ settled cmp choice found → Moves cmp facts choice.backwards Before all_of old new before after (Ok found) → Moves cmp facts choice.backwards Before (reach cmp choice) old new before after (Ok result)
  moves_within found result is m = subst (λ (r : Option Pair). Moves cmp facts choice.backwards Before (reach cmp choice) old new before after (Ok r)) (sym is) (record {
    reads = m.reads;
    stood = m.stood;
    moves = λ f at ahead stands h. settles new after at.pairs ahead found (m.moves f at ahead stands h);
    refused = tt;
  })

  pub moves_refused : (e : DbError) → Moves cmp facts choice.backwards Before all_of old new before after (Err e) → Moves cmp facts choice.backwards Before (reach cmp choice) old new before after (Err e)
  moves_refused e m = record { reads = m.reads; stood = tt; moves = λ f at ahead stands h. tt; refused = m.refused }

-- ---- lines

lines_push : (style : Style) (pairs : List Pair) (pair : Pair) → lines_in style (pairs ++ pair ∷ []) ≡ lines_in style pairs ++ (line_in style pair ++ 10 ∷ [])
lines_push style [] pair = refl
lines_push style (first ∷ pairs) pair =
    ap (λ (t : List ℕ). line_in style first ++ 10 ∷ t) (lines_push style pairs pair) ∙ sym (append_assoc (line_in style first) (10 ∷ lines_in style pairs) (line_in style pair ++ 10 ∷ []))

-- a further line
shows_more : (style : Style) (a b c : Option (List ℕ)) (text waiting new : List ℕ) (came : List Pair) (pair : Pair) → Shows a b (text ++ lines_in style came) waiting → Shows b c (waiting ++ (line_in style pair ++ 10 ∷ [])) new
    → Shows a c (text ++ lines_in style (came ++ pair ∷ [])) new
shows_more style a b c text waiting new came pair h k = (
  h.0 ++ k.0,
  ap (λ (t : List ℕ). text ++ t) (lines_push style came pair) ∙ sym (append_assoc text (lines_in style came) (line_in style pair ++ 10 ∷ []))
      ∙ ap (λ (t : List ℕ). t ++ (line_in style pair ++ 10 ∷ [])) h.1 ∙ append_assoc h.0 waiting (line_in style pair ++ 10 ∷ []) ∙ ap (λ (t : List ℕ). h.0 ++ t) k.1 ∙ sym (append_assoc h.0 k.0 new),
  appends_then a b c h.0 k.0 h.2 k.2,
)

shows_none : (style : Style) (a : Option (List ℕ)) (text : List ℕ) → Shows a a (text ++ lines_in style []) text
shows_none style a text = ([], append-nil text, appends_none a)

-- ---- how many

take_beyond : (xs ys : List Pair) (n : ℕ) → take (length xs + n) (xs ++ ys) ≡ xs ++ take n ys
take_beyond [] ys n = (let e : length {A = Pair} [] + n ≡ n = omega arith in ap (λ (k : ℕ). take k ys) e)
take_beyond (x ∷ xs) ys n = (let e : length (x ∷ xs) + n ≡ suc (length xs + n) = omega arith in ap (λ (k : ℕ). take k (x ∷ (xs ++ ys))) e ∙ ap (λ (t : List Pair). x ∷ t) (take_beyond xs ys n))

whole_most : (most : Option ℕ) (limit : ℕ) (came all : List Pair) → IfSome most (λ n. limit ≡ n) → length came ≤ limit → all ≡ came → came ≡ at_most most all
whole_most None limit came all of le is = sym is
whole_most (Some n) limit came all of le is = sym (ap (take n) is ∙ take_all n came (let same : limit ≡ n = of in omega (arith, same, le)))

front_most : (most : Option ℕ) (limit : ℕ) (came all rest : List Pair) → IfSome most (λ n. limit ≡ n) → length came ≤ limit → all ≡ came ++ rest → (more : List Pair) × (came ++ more ≡ at_most most all)
front_most None limit came all rest of le is = (rest, sym is)
front_most (Some n) limit came all rest of le is =
    let same : limit ≡ n = of in
    let split : n ≡ length came + (n - length came) = omega (arith, same, le) in
    (take (n - length came) rest, sym (ap (take n) is ∙ ap (λ (k : ℕ). take k (came ++ rest)) split ∙ take_beyond came rest (n - length came)))

full_most : (most : Option ℕ) (limit : ℕ) (came all rest : List Pair) → IsSome most → IfSome most (λ n. limit ≡ n) → length came ≡ limit → all ≡ came ++ rest → came ≡ at_most most all
full_most None limit came all rest some of is split = absurd (cc)
full_most (Some n) limit came all rest some of is split = sym (ap (take n) split ∙ take_at came rest n (let same : limit ≡ n = of in is ∙ same))

-- ---- a walk that is printed

module _ {S K : Type 0} {g : _} (cmp : Cmp) (facts : S → Facts) (choice : Choice) (first : Reader S K) (start : ReaderWalk K g) (before : Option (List ℕ)) (text : List ℕ) where
  -- what is still to come of its pairs
  abbrev pub Left : Reader S K → ReaderWalk K g → Bool → List Pair → List Pair → Type 0
  Left reader walk begun pairs came =
      (at : Walk) × Stands cmp facts reader walk at × (at.pairs ≡ pairs) × (ahead : List Pair) × Ahead cmp choice begun at ahead × (reach cmp choice (starting cmp choice pairs) ≡ came ++ reach cmp choice ahead)

  -- These came, and their lines stand behind the text that waited; of that some was written.
  pub record Progress (now : Reader S K) (walk : ReaderWalk K g) (between : Option (List ℕ)) (waiting : List ℕ) (begun : Bool) (turns : ℕ) : Type 0 where
    pub came : List Pair
    pub count : length came ≡ turns
    pub shown : Shows before between (text ++ lines_in choice.style came) waiting
    pub reads : Reads (facts_of facts first) (facts_of facts now)
    pub stood : (facts_of facts now).failures ≡ (facts_of facts first).failures
    pub left : IsTrue (facts_of facts now).faithful → (pairs : List Pair) → GoesOver cmp facts first start pairs → Left now walk begun pairs came

  pub progress_none : Progress first start before text false 0
  progress_none = record {
    came = [];
    count = refl;
    shown = shows_none choice.style before text;
    reads = record { faithful = λ f. f; files = λ f. refl; failures = omega arith; writes = refl; denials = refl; locked = refl; synced = λ f. refl; calls = λ f. refl };
    stood = refl;
    left = λ f pairs over. (over.0, over.1, over.2, starting cmp choice over.0.pairs, refl, ap (λ (ps : List Pair). reach cmp choice (starting cmp choice ps)) (sym over.2));
  }

  abbrev pub Printed : Reader S K → Option (List ℕ) → List ℕ → Result (Unit {0}) DbError → Type 0
  Printed now between waiting answer = Prints cmp choice (GoesOver cmp facts first start) (facts_of facts first) (facts_of facts now) before between text waiting answer

  module _ (now next : Reader S K) (walk moved : ReaderWalk K g) (between : Option (List ℕ)) (waiting : List ℕ) (begun : Bool) (turns : ℕ) (p : Progress now walk between waiting begun turns) where
    abbrev Goes : Result (Option Pair) DbError → Type 0
    Goes result = Moves cmp facts choice.backwards (Ahead cmp choice begun) (reach cmp choice) now next walk moved result

    pub read_on : (result : Result (Option Pair) DbError) → Goes result → Reads (facts_of facts first) (facts_of facts next)
    read_on result m = reads_then (facts_of facts first) (facts_of facts now) (facts_of facts next) p.reads m.reads

    -- a pair came, and its line was put behind
    pub progress_more : (pair : Pair) (after : Option (List ℕ)) (later : List ℕ) → Goes (Ok (Some pair)) → Shows between after (waiting ++ (line_in choice.style pair ++ 10 ∷ [])) later → Progress next moved after later true (turns + 1)
    progress_more pair after later m s = record {
      came = p.came ++ pair ∷ [];
      count = length-append p.came (pair ∷ []) ∙ ap (λ (n : ℕ). n + 1) p.count;
      shown = shows_more choice.style before between after text waiting later p.came pair p.shown s;
      reads = reads_then (facts_of facts first) (facts_of facts now) (facts_of facts next) p.reads m.reads;
      stood = m.stood ∙ p.stood;
      left = λ f pairs over.
          let l = p.left (m.reads.faithful f) pairs over in
          let to = m.moves f l.0 l.3 l.1 l.4 in (
            record { pairs = l.0.pairs; place = Some to.0 },
            to.2,
            l.2,
            behind choice.backwards to.0 l.0.pairs,
            (to.0, refl, to.1, refl),
            l.5 ∙ ap (λ (t : List Pair). p.came ++ t) to.3 ∙ sym (append_assoc p.came (pair ∷ []) (reach cmp choice (behind choice.backwards to.0 l.0.pairs))),
          );
    }

    module _ (limit : ℕ) (of : IfSome choice.most (λ n. limit ≡ n)) (within : turns ≤ limit) where
      -- none is left
      pub prints_whole : Goes (Ok None) → Printed next between waiting (Ok tt)
      prints_whole m = record {
        came = p.came;
        shown = p.shown;
        told = λ f pairs over.
            let l = p.left (m.reads.faithful f) pairs over in
            whole_most choice.most limit p.came (reach cmp choice (starting cmp choice pairs)) of (omega (arith, p.count, within)) (l.5 ∙ ap (λ (t : List Pair). p.came ++ t) (m.moves f l.0 l.3 l.1 l.4) ∙ append-nil p.came);
        refused = tt;
      }

      pub prints_refused : (e : DbError) → Goes (Err e) → Printed next between waiting (Err e)
      prints_refused e m = record {
        came = p.came;
        shown = p.shown;
        told = λ f pairs over.
            let l = p.left (m.reads.faithful f) pairs over in
            front_most choice.most limit p.came (reach cmp choice (starting cmp choice pairs)) (reach cmp choice l.3) of (omega (arith, p.count, within)) l.5;
        refused = refused_later cmp e (facts_of facts first) (facts_of facts now) (facts_of facts next) (λ P. (pairs : List Pair) → GoesOver cmp facts first start pairs → P)
            (λ P. (at : Walk) (ahead : List Pair) → Stands cmp facts now walk at → Ahead cmp choice begun at ahead → P) p.reads p.stood m.reads.faithful
            (λ P Q goes f later pairs over. let l = p.left f pairs over in goes (later l.0 l.3 l.1 l.4)) m.refused;
      }

  -- as many came as may
  pub prints_most : (now : Reader S K) (walk : ReaderWalk K g) (between : Option (List ℕ)) (waiting : List ℕ) (begun : Bool) (turns limit : ℕ) → Progress now walk between waiting begun turns → IsSome choice.most → IfSome choice.most (λ n. limit ≡ n) → turns ≡ limit
      → Printed now between waiting (Ok tt)
  prints_most now walk between waiting begun turns limit p some of is = record {
    came = p.came;
    shown = p.shown;
    told = λ f pairs over. let l = p.left f pairs over in full_most choice.most limit p.came (reach cmp choice (starting cmp choice pairs)) (reach cmp choice l.3) some of (p.count ∙ is) l.5;
    refused = tt;
  }

-- ---- the map of a reader

module _ {S K : Type 0} {g : _} (order : Order) (total : IsTotalOrder order.cmp) (facts : S → Facts) (choice : Choice) (old new : Reader S K) (before after : Option (List ℕ)) (text rest : List ℕ) where
  told_of : (walk : ReaderWalk K g) (came : List Pair) (answer : Result (Unit {0}) DbError) (m : Contents) → (b : BeginsWalk order.cmp true m (whole_of facts old) (scan_of walk)) → Ends came (at_most choice.most (reach order.cmp choice (starting order.cmp choice b.0))) answer → IsTold order.cmp choice m came answer
  told_of walk came (Ok done) m b h = (b.0, b.1, h ∙ ap (at_most choice.most) (sym (reaches_range order.cmp choice total b.0 b.1.sorted)))
  told_of walk came (Err e) m b h = inr (h.0, (b.0, b.1, h.1 ∙ ap (at_most choice.most) (sym (reaches_range order.cmp choice total b.0 b.1.sorted))))

  refused_of : (walk : ReaderWalk K g) (answer : Result (Unit {0}) DbError) → Reads (facts_of facts old) (facts_of facts new) → ((m : Contents) → ShowsMap order facts old m → BeginsWalk order.cmp true m (whole_of facts old) (scan_of walk))
      → IfErr answer (λ e. RefusesMove order.cmp e (facts_of facts old) (facts_of facts new) (λ P. (pairs : List Pair) → GoesOver order.cmp facts old walk pairs → P))
      → IfErr answer (λ e. RefusesMove order.cmp e (facts_of facts old) (facts_of facts new) (λ P. (m : Contents) → ShowsMap order facts old m → P))
  refused_of walk (Ok done) reads begins h = tt
  refused_of walk (Err e) reads begins h =
      refused_later order.cmp e (facts_of facts old) (facts_of facts old) (facts_of facts new) (λ P. (m : Contents) → ShowsMap order facts old m → P) (λ P. (pairs : List Pair) → GoesOver order.cmp facts old walk pairs → P)
      (record { faithful = λ f. f; files = λ f. refl; failures = omega arith; writes = refl; denials = refl; locked = refl; synced = λ f. refl; calls = λ f. refl }) refl
      reads.faithful (λ P Q goes f later m shows. let b = begins m shows in goes (later b.0 (record { pairs = b.0; place = None }, b.2, refl))) h

  pub prints_map : (walk : ReaderWalk K g) (answer : Result (Unit {0}) DbError) → Reads (facts_of facts old) (facts_of facts new) → ((m : Contents) → ShowsMap order facts old m → BeginsWalk order.cmp true m (whole_of facts old) (scan_of walk))
      → Prints order.cmp choice (GoesOver order.cmp facts old walk) (facts_of facts old) (facts_of facts new) before after text rest answer → PrintsMap order choice facts old new before after text rest answer
  prints_map walk answer reads begins p = record {
    came = p.came;
    shown = p.shown;
    told = λ f m shows. let b = begins m shows in told_of walk p.came answer m b (p.told f b.0 (record { pairs = b.0; place = None }, b.2, refl));
    refused = refused_of walk answer reads begins p.refused;
  }

pub prints_none : {S K : Type 0} (order : Order) (facts : S → Facts) (choice : Choice) (old : Reader S K) (before : Option (List ℕ)) (text : List ℕ) → PrintsMap order choice facts old old before before text text (Err error.OutOfMemory)
prints_none order facts choice old before text = record {
  came = [];
  shown = shows_none choice.style before text;
  told = λ f m shows. inl refl;
  refused = refl;
}

pub tells_map : {S K : Type 0} (order : Order) (facts : S → Facts) (choice : Choice) (old new : Reader S K) (before between after : Option (List ℕ)) (text rest : List ℕ) (answer : Result (Unit {0}) DbError) (status : ℕ)
    → text ≡ [] → PrintsMap order choice facts old new before between text rest answer → Appends between after rest → status ≡ end_status answer → TellsMap order choice facts old new before after status
tells_map order facts choice old new before between after text rest answer status empty p written is = record {
  came = p.came;
  answer = answer;
  told = p.told;
  refused = p.refused;
  written = subst (Appends before after) (sym p.shown.1 ∙ ap (λ (t : List ℕ). t ++ lines_in choice.style p.came) empty)
      (appends_then before between after p.shown.0 rest p.shown.2 written);
  ended = is;
}

-- ---- results

pub if_ok : {X E : Type 0} (r : Result X E) (P Q : X → Type 0) → ((x : X) → P x → Q x) → IfOk r P → IfOk r Q
if_ok (Ok x) P Q goes h = goes x h
if_ok (Err e) P Q goes h = tt

pub most_so : {E : Type 0} (r : Result (Result (Unit {0}) DbError) E) (most : Option ℕ) (P : Result (Unit {0}) DbError → Type 0) → (IsSome most → P (Ok tt)) → IfOk r (λ answer. IsSome most × (answer ≡ Ok tt)) → IfOk r P
most_so (Ok answer) most P goes h = subst P (sym h.1) (goes h.0)
most_so (Err e) most P goes h = tt
