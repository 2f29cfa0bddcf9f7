-- What a dump prints that goes on behind a damage.
use Rattle.std.proofs.Common.{◌≡◌, ◌<◌, ◌+◌, max, IfOk, OnOk, Ok, Err, Result, ℕ, List, Option, Some, None, drop, get_or, length, refl, sym, subst}
use Rattle.std.proofs.lemmas.List.{drop_more}
use Rattle.std.specs.Io.KnownBytes.{Appends}
use Rattle.coding.specs.declared.error.DbError.{DbError}
use Rattle.ikey.specs.Orders.{Order}
use Rattle.recover.specs.declared.origins.Origin.{Origin}
use Rattle.recover.specs.declared.overview.Overview.{Overview}
use Rattle.store.specs.Files.{Facts}
use Rattle.tool.specs.EachFile.{DumpsSound, PrintsIfSound, PrintsSound, origins_of_overview}
use Rattle.tool.specs.Reports.{check_text_of}
use Rattle.tool.specs.Statistics.{IsLookedOver}
use Rattle.tool.specs.declared.task.Notation.{Notation}

-- a file more
pub sound_more : (order : Order) (notation : Notation) (origins : List Origin) (i : ℕ) (d : Origin) → i < length origins → (so_far one now status : ℕ) (old mid new : Facts) (before between after : Option (List ℕ))
    → now ≡ max so_far one → PrintsIfSound order notation (get_or origins i d) old mid before between one → PrintsSound order notation (drop (i + 1) origins) now mid new between after status
    → PrintsSound order notation (drop i origins) so_far old new before after status
sound_more order notation origins i d within so_far one now status old mid new before between after is h rest =
    let R : ℕ → Type 0 = λ n. PrintsSound order notation (drop (i + 1) origins) n mid new between after status in
    subst (λ (os : List Origin). PrintsSound order notation os so_far old new before after status) (sym (drop_more origins i d within)) (mid, between, one, h, subst R is rest)

pub dumps_sound : {E : Type 0} (result : Result ℕ E) (order : Order) (notation : Notation) (old mid new : Facts) (before after : Option (List ℕ)) (overview : Overview) (origins : List Origin)
    → IsLookedOver order old mid (Ok (Some overview)) → origins ≡ origins_of_overview overview
    → IfOk result (PrintsSound order notation origins 0 mid new before after) → IfOk result (DumpsSound order notation old new before after)
dumps_sound (Ok status) order notation old mid new before after overview origins looked is h =
    (mid, Ok (Some overview), looked, subst (λ (os : List Origin). PrintsSound order notation os 0 mid new before after status) is h)
dumps_sound (Err e) order notation old mid new before after overview origins looked is h = tt

pub dumps_unread : {E : Type 0} (result : Result ℕ E) (order : Order) (notation : Notation) (old mid : Facts) (before after : Option (List ℕ)) (error : DbError) → IsLookedOver order old mid (Err error)
    → OnOk result (Appends before after (check_text_of (Err error))) → IfOk result (λ status. status ≡ 1) → IfOk result (DumpsSound order notation old mid before after)
dumps_unread (Ok status) order notation old mid before after error looked written is = (mid, Err error, looked, (refl, written, is))
dumps_unread (Err e) order notation old mid before after error looked written is = tt
