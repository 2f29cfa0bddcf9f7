-- A block from its parts.
use Rattle.std.proofs.Common.{◌≡◌, ℕ, ◌*◌, ◌^◌, ◌<◌, None, List, [], ◌++◌, length, take, refl, sym, ap, ◌∙◌, subst, arith}
use Rattle.std.proofs.lemmas.List.{length-append, take_at}
use Rattle.std.specs.List.{flat_map}
use Rattle.coding.specs.declared.error.ReadError.{ReadError}
use Rattle.coding.specs.declared.error.ReadError.TheVariants.{Memory, Corrupt, Unsupported}
use Rattle.coding.specs.Errors.{RefusesOnly}
use Rattle.coding.specs.Fixed.{fixed32}
use Rattle.ikey.specs.Entries.{Pair}
use Rattle.block.specs.Block.{IsBody, IsLaidOut, IsBlock, AreAbove, Refuses, last_key_from, trailer}
use Rattle.block.specs.Opened.{IsOpened}
use Rattle.block.specs.Reading.{pairs_of}
use Rattle.block.proofs.BlockLaws.{length-restarts, body_pairs, one_body, count_fits}

-- the bytes without their last number
abbrev pub Parts : List ℕ → List ℕ → List ℕ → Type 0
Parts bytes body restarts = (count : ℕ) × (length restarts ≡ 4 * count) × (bytes ≡ body ++ (restarts ++ fixed32 count))

abbrev pub Entries : (List ℕ → List ℕ → Type 0) → List ℕ → List ℕ → Type 0
Entries below restarts body = (pairs : List Pair) × (list : List ℕ) × (restarts ≡ flat_map fixed32 list) × IsBody pairs list body × AreAbove below None pairs

abbrev pub NoEntries : (List ℕ → List ℕ → Type 0) → List ℕ → List ℕ → Type 0
NoEntries below restarts body = (pairs : List Pair) (list : List ℕ) → restarts ≡ flat_map fixed32 list → IsBody pairs list body → AreAbove below None pairs → ⊥

-- the same, where this is the last key
abbrev pub EntriesTo : (List ℕ → List ℕ → Type 0) → List ℕ → List ℕ → List ℕ → Type 0
EntriesTo below restarts body last = (pairs : List Pair) × (list : List ℕ) × (restarts ≡ flat_map fixed32 list) × IsBody pairs list body × AreAbove below None pairs × (last_key_from [] pairs ≡ last)

pub entries_to : (below : List ℕ → List ℕ → Type 0) (restarts body last : List ℕ) → EntriesTo below restarts body last → Entries below restarts body
entries_to below restarts body last (pairs, list, encoded, entries, rises, ends) = (pairs, list, encoded, entries, rises)

-- the same of the block that is opened
pub last_of_block : (below : List ℕ → List ℕ → Type 0) (bytes body restarts last : List ℕ) → Parts bytes body restarts → EntriesTo below restarts body last → last_key_from [] (pairs_of (take (length body) bytes)) ≡ last
last_of_block below bytes body restarts last p (pairs, list, encoded, entries, rises, ends) =
    let same : take (length body) bytes ≡ body = ap (take (length body)) p.2 ∙ take_at body (restarts ++ fixed32 p.0) (length body) refl in
    ap (λ (b : List ℕ). last_key_from [] (pairs_of b)) same ∙ ap (last_key_from []) (body_pairs pairs list body entries) ∙ ends

pub open_block : (below : List ℕ → List ℕ → Type 0) (bytes body restarts : List ℕ) → length bytes < 2 ^ 32 → Parts bytes body restarts → Entries below restarts body → IsOpened below bytes (length body)
open_block below bytes body restarts fits p e =
    let counted : p.0 ≡ length e.1 = omega (arith, p.1, ap length e.2, length-restarts e.1) in
    let parts : bytes ≡ body ++ trailer e.1 = p.2 ∙ (λ i. body ++ (e.2 i ++ fixed32 (counted i))) in
    let same : take (length body) bytes ≡ body = ap (take (length body)) p.2 ∙ take_at body (restarts ++ fixed32 p.0) (length body) refl in
    let found : pairs_of body ≡ e.0 = body_pairs e.0 e.1 body e.3 in
    let laid : IsLaidOut below body e.1 bytes e.0 = record { fits = fits; parts = parts; entries = e.3; rises = e.4 } in
    record {
      restarts = e.1;
      inside = omega (arith, ap length p.2, length-append body (restarts ++ fixed32 p.0));
      laid_out = subst (λ (b : List ℕ). IsLaidOut below b e.1 bytes (pairs_of b)) (sym same) (subst (λ (ps : List Pair). IsLaidOut below body e.1 bytes ps) (sym found) laid);
    }

pub block_of : (below : List ℕ → List ℕ → Type 0) (bytes : List ℕ) (n : ℕ) → IsOpened below bytes n → IsBlock below bytes (pairs_of (take n bytes))
block_of below bytes n h = (take n bytes, h.restarts, h.laid_out)

pub no_block : (below : List ℕ → List ℕ → Type 0) (bytes body restarts : List ℕ) → length bytes < 2 ^ 32 → Parts bytes body restarts → NoEntries below restarts body → (pairs : List Pair) → IsBlock below bytes pairs → ⊥
no_block below bytes body restarts fits p none pairs h =
    let small : p.0 < 2 ^ 32 = omega (arith, fits, p.1, ap length p.2, length-append body (restarts ++ fixed32 p.0), length-append restarts (fixed32 p.0)) in
    let s = one_body body h.0 restarts (flat_map fixed32 h.1) p.0 (length h.1) small (count_fits below h.0 h.1 bytes pairs h.2) p.1 (length-restarts h.1) (sym p.2 ∙ h.2.parts) in
    none pairs h.1 s.1 (subst (IsBody pairs h.1) (sym s.0) h.2.entries) h.2.rises

pub no_parts : (below : List ℕ → List ℕ → Type 0) (bytes : List ℕ) → ((body restarts : List ℕ) → length restarts < 2 ^ 32 → bytes ≡ body ++ trailer restarts → ⊥) → (pairs : List Pair) → IsBlock below bytes pairs → ⊥
no_parts below bytes none pairs h = none h.0 h.1 (count_fits below h.0 h.1 bytes pairs h.2) h.2.parts

pub refuses_block : (P Q large : Type 0) (e : ReadError) → (P → Q) → RefusesOnly e P → Refuses e Q large
refuses_block P Q large Memory f h = tt
refuses_block P Q large (Corrupt what) f h = f h
refuses_block P Q large (Unsupported what) f h = absurd h
