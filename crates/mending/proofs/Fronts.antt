-- No bytes have two fronts to be cut behind.
use Rattle.std.proofs.Common.{◌≡◌, ℕ, ◌+◌, ◌<◌, ◌≤◌, ◌⊎◌, inl, inr, List, ◌++◌, length, take, drop, refl, sym, ap, ◌∙◌, subst, append_assoc, arith}
use Rattle.std.proofs.lemmas.List.{length-append, length-take}
use Rattle.coding.proofs.Fronts.{same_front}
use Rattle.coding.specs.Errors.{RefusesOnly}
use Rattle.coding.specs.declared.error.ReadError.{ReadError}
use Rattle.coding.specs.declared.error.ReadError.TheVariants as read_error
use Rattle.logfile.specs.Log.{IsLog, length_said}
use Rattle.logfile.specs.declared.record.Tail.{Tail}
use Rattle.logfile.specs.Mending.{IsCutAt, IsMended}
use Rattle.logfile.proofs.Parts.{between}
use Rattle.logfile.proofs.Longest.{longest_cut, cut_of}
use Rattle.logfile.proofs.Cutting.{cut_none, all_records}
use Rattle.mending.specs.Cutting.{IsCut, IsMark, HasHole, IsReadable, Becomes}
use Rattle.mending.specs.declared.ends.Ends.{Ends}
use Rattle.mending.specs.declared.ends.Ends.TheVariants.{Zeros, Holes}

pub one_cut_front : (bytes front other : List ℕ) → IsCutAt bytes front → IsCutAt bytes other → front ≡ other
one_cut_front bytes front other c d =
    let one = longest_cut bytes front other d.rest d.fragments c d.parts d.whole in
    let two = longest_cut bytes other front c.rest c.fragments d c.parts c.whole in
    let size : length front ≡ length other = omega (arith, ap length one.1, ap length two.1, length-append other one.0, length-append front two.0) in
    (same_front front other c.rest d.rest size (sym c.parts ∙ d.parts)).0

pub at_of : (ends : Ends) (bytes front : List ℕ) → IsCut ends bytes front → IsCutAt bytes front
at_of Zeros bytes front m = cut_of bytes front m
at_of Holes bytes front (inl m) = cut_of bytes front m
at_of Holes bytes front (inr h) = h.0

pub same_cut : (ends : Ends) (bytes front other : List ℕ) → IsCut ends bytes front → IsCut ends bytes other → front ≡ other
same_cut ends bytes front other c d = one_cut_front bytes front other (at_of ends bytes front c) (at_of ends bytes other d)

pub no_log_there : (ends : Ends) (bytes front : List ℕ) → IsCut ends bytes front → IsReadable bytes → ⊥
no_log_there ends bytes front c r = cut_none bytes front r.0 r.1 (at_of ends bytes front c) r.2

choose_front : (ends : Ends) (bytes front other : List ℕ) → (front ≡ bytes) ⊎ IsCut ends bytes front → (other ≡ bytes) ⊎ IsCut ends bytes other → IsReadable front → IsReadable other → front ≡ other
choose_front ends bytes front other (inl e) (inl f) r s = e ∙ sym f
choose_front ends bytes front other (inl e) (inr d) r s = absurd (no_log_there ends bytes other d (subst IsReadable e r))
choose_front ends bytes front other (inr c) (inl f) r s = absurd (no_log_there ends bytes front c (subst IsReadable f s))
choose_front ends bytes front other (inr c) (inr d) r s = same_cut ends bytes front other c d

pub front_is_one : (ends : Ends) (bytes front other : List ℕ) → Becomes ends bytes front → Becomes ends bytes other → front ≡ other
front_is_one ends bytes front other a b = choose_front ends bytes front other a.how b.how a.readable b.readable

pub front_stays : (ends : Ends) (bytes front other : List ℕ) → Becomes ends bytes front → Becomes ends front other → other ≡ front
front_stays ends bytes front other a b = sym (front_is_one ends front front other (record { how = inl refl; readable = a.readable }) b)

-- ---- what is judged

pub cut_becomes : (ends : Ends) (bytes front : List ℕ) → IsCut ends bytes front → IsReadable front → Becomes ends bytes front
cut_becomes ends bytes front c r = record { how = inr c; readable = r }

pub log_becomes : (ends : Ends) (bytes : List ℕ) → IsReadable bytes → Becomes ends bytes bytes
log_becomes ends bytes r = record { how = inl refl; readable = r }

none_how : (ends : Ends) (bytes front : List ℕ) → ((front : List ℕ) → IsCut ends bytes front → ⊥) → (IsReadable bytes → ⊥) → IsReadable front → (front ≡ bytes) ⊎ IsCut ends bytes front → ⊥
none_how ends bytes front none unread r (inl e) = unread (subst IsReadable e r)
none_how ends bytes front none unread r (inr c) = none front c

pub none_becomes : (ends : Ends) (bytes : List ℕ) → ((front : List ℕ) → IsCut ends bytes front → ⊥) → (IsReadable bytes → ⊥) → (front : List ℕ) → Becomes ends bytes front → ⊥
none_becomes ends bytes none unread front b = none_how ends bytes front none unread b.readable b.how

cut_how : (ends : Ends) (bytes cut front : List ℕ) → IsCut ends bytes cut → (IsReadable cut → ⊥) → IsReadable front → (front ≡ bytes) ⊎ IsCut ends bytes front → ⊥
cut_how ends bytes cut front c unread r (inl e) = no_log_there ends bytes cut c (subst IsReadable e r)
cut_how ends bytes cut front c unread r (inr d) = unread (subst IsReadable (same_cut ends bytes front cut d c) r)

pub cut_unread : (ends : Ends) (bytes cut : List ℕ) → IsCut ends bytes cut → (IsReadable cut → ⊥) → (front : List ℕ) → Becomes ends bytes front → ⊥
cut_unread ends bytes cut c unread front b = cut_how ends bytes cut front c unread b.readable b.how

-- ---- holes

length_front : (bytes : List ℕ) (n : ℕ) → n ≤ length bytes → length (take n bytes) ≡ n
length_front bytes n fits = omega (arith, length-take n bytes, fits)

pub hole_here : (bytes rest : List ℕ) (at n said : ℕ) → rest ≡ drop at bytes → said ≡ length_said rest → 0 < n → n < said + 519 → IsMark rest n at → HasHole bytes at
hole_here bytes rest at n said back size some less mark =
    let says : said ≡ length_said (drop at bytes) = size ∙ ap length_said back in
    (n, some, omega (arith, less, says), subst (λ (v : List ℕ). IsMark v n at) back mark)

pub no_hole : (bytes rest : List ℕ) (at said : ℕ) → rest ≡ drop at bytes → said ≡ length_said rest → ((k : ℕ) → 0 < k → k < said + 519 → IsMark rest k at → ⊥) → HasHole bytes at → ⊥
no_hole bytes rest at said back size none h =
    let says : said ≡ length_said (drop at bytes) = size ∙ ap length_said back in
    none h.0 h.1 (omega (arith, h.2, says)) (subst (λ (v : List ℕ). IsMark v h.0 at) (sym back) h.3)

pub hole_cut : (bytes : List ℕ) (n : ℕ) → n ≤ length bytes → IsCutAt bytes (take n bytes) → HasHole bytes n → IsCut Holes bytes (take n bytes)
hole_cut bytes n fits c h = inr (c, subst (λ (k : ℕ). HasHole bytes k) (sym (length_front bytes n fits)) h)

pub no_hole_cut : (bytes : List ℕ) (n : ℕ) → n ≤ length bytes → ((front : List ℕ) → IsMended bytes front → ⊥) → IsCutAt bytes (take n bytes) → (HasHole bytes n → ⊥) → (front : List ℕ) → IsCut Holes bytes front → ⊥
no_hole_cut bytes n fits none c unread front (inl m) = none front m
no_hole_cut bytes n fits none c unread front (inr d) =
    let same = one_cut_front bytes front (take n bytes) d.0 c in
    unread (subst (λ (k : ℕ). HasHole bytes k) (ap length same ∙ length_front bytes n fits) d.1)

pub nothing_cut : (bytes : List ℕ) → ((front : List ℕ) → IsMended bytes front → ⊥) → ((front : List ℕ) → IsCutAt bytes front → ⊥) → (front : List ℕ) → IsCut Holes bytes front → ⊥
nothing_cut bytes none never front (inl m) = none front m
nothing_cut bytes none never front (inr d) = never front d.0

-- ---- records

between_all : (sure more : List ℕ) (records all : List (List ℕ)) (tail end : Tail) → IsLog sure records tail → IsLog (sure ++ more) all end → (others : List (List ℕ)) × (all ≡ records ++ others)
between_all sure more records all tail end s l =
    let p = between sure more records all tail end 0 s l in
    (p.0 ++ p.1, p.3 ∙ append_assoc records p.0 p.1)

kept_how : (ends : Ends) (bytes front sure more : List ℕ) (records : List (List ℕ)) (tail : Tail) (r : IsReadable front) → (front ≡ bytes) ⊎ IsCut ends bytes front → bytes ≡ sure ++ more → IsLog sure records tail
    → (others : List (List ℕ)) × (r.0 ≡ records ++ others)
kept_how ends bytes front sure more records tail r (inr c) e s = all_records bytes front sure more records r.0 tail r.1 (at_of ends bytes front c) r.2 e s
kept_how ends bytes front sure more records tail r (inl f) e s =
    let p = between_all sure more records r.0 tail r.1 s (subst (λ (v : List ℕ). IsLog v r.0 r.1) (f ∙ e) r.2) in p

pub kept_records : (ends : Ends) (bytes front sure more : List ℕ) (records : List (List ℕ)) (tail : Tail) → Becomes ends bytes front → bytes ≡ sure ++ more → IsLog sure records tail
    → (others : List (List ℕ)) × (end : Tail) × IsLog front (records ++ others) end
kept_records ends bytes front sure more records tail b e s =
    let p = kept_how ends bytes front sure more records tail b.readable b.how e s in
    (p.0, b.readable.1, subst (λ (v : List (List ℕ)). IsLog front v b.readable.1) p.1 b.readable.2)

-- ---- refusals

refuses_so : (e : ReadError) (D E : Type 0) → (D → E) → RefusesOnly e D → RefusesOnly e E
refuses_so read_error.Memory D E so h = tt
refuses_so (read_error.Corrupt what) D E so h = so h
refuses_so (read_error.Unsupported what) D E so h = absurd h

abbrev IsNoLog : List ℕ → Type 0
IsNoLog bytes = (records : List (List ℕ)) (tail : Tail) → IsLog bytes records tail → ⊥

unread_by : (bytes : List ℕ) → IsNoLog bytes → IsReadable bytes → ⊥
unread_by bytes none r = none r.0 r.1 r.2

pub cut_refused : (ends : Ends) (bytes front cut : List ℕ) (e : ReadError) → front ≡ cut → IsCut ends bytes cut → RefusesOnly e (IsNoLog front) → RefusesOnly e ((front : List ℕ) → Becomes ends bytes front → ⊥)
cut_refused ends bytes front cut e same c h =
    refuses_so e (IsNoLog front) ((front : List ℕ) → Becomes ends bytes front → ⊥) (λ none. cut_unread ends bytes cut c (unread_by cut (subst IsNoLog same none))) h

pub whole_refused : (ends : Ends) (bytes : List ℕ) (e : ReadError) → ((front : List ℕ) → IsCut ends bytes front → ⊥) → RefusesOnly e (IsNoLog bytes) → RefusesOnly e ((front : List ℕ) → Becomes ends bytes front → ⊥)
whole_refused ends bytes e none h =
    refuses_so e (IsNoLog bytes) ((front : List ℕ) → Becomes ends bytes front → ⊥) (λ no_log. none_becomes ends bytes none (unread_by bytes no_log)) h
