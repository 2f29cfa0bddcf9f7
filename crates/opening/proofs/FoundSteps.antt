-- What an open finds.
use Rattle.std.proofs.Common.{◌≡◌, ℕ, ◌+◌, ◌-◌, ◌<◌, ◌≤◌, ◌^◌, false, [], Option, is_some, Result, Ok, Err, IfErr, IsTrue, inr, refl, sym, ap, subst, ◌∙◌, arith}
use Rattle.coding.specs.declared.error.DbError.{DbError}
use Rattle.coding.specs.declared.error.DbError.TheVariants as error
use Rattle.store.specs.Files.{Facts, Files}
use Rattle.ikey.specs.Orders.{Order}
use Rattle.edits.specs.declared.layout.Layout.{Layout}
use Rattle.recover.specs.Numbers.{IsFree, IsNextNumber}
use Rattle.recover.specs.internal.Changes.{RecoveredLaw}
use Rattle.recover.specs.Directory.{Directory, IsConsistent, IsEmpty, used_in}
use Rattle.recover.specs.internal.Laws.{IsSameLayout}
use Rattle.recover.specs.Logs.{logged}
use Rattle.recover.specs.Reading.{IsListing, Recovers, IsNumberUpTo}
use Rattle.recover.specs.declared.listing.Listing.{Listing}
use Rattle.recover.specs.declared.reading.Recovered.{Recovered}
use Rattle.machine.specs.declared.command.Mode.{Mode}
use Rattle.opening.specs.declared.finding.Found.{Found}
use Rattle.opening.specs.internal.Opening.{FindsDirectory, Finds, RefusesOpen, RefusesEmpty}
use Rattle.opening.specs.Looking.{IsFound}

-- ---- numbers

-- the number below the limit is the next one
pub number_is : (order : Order) (files : Files) (number : ℕ) → IsNumberUpTo order files number → number < 2 ^ 62 - 1 → IsNextNumber order files number
number_is order files number up lt =
    let same : up.0 ≡ number = omega (arith, up.2, lt) in
    subst (λ (n : ℕ). IsNextNumber order files n) same up.1

-- where it isn't below, none that is free is
pub number_spent : (order : Order) (files : Files) (number m : ℕ) → IsNumberUpTo order files number → 2 ^ 62 - 1 ≤ number → IsFree order files m → 2 ^ 62 ≤ m + 1
number_spent order files number m up ge free = (let le : up.0 ≤ m = up.1.1 m free in omega (arith, le, up.2, ge))

-- ---- a database that is there

-- the parts of a directory without tables
abbrev pub directory_read : (order : Order) (files : Files) (r : Recovered) → Recovers order files r → Directory
directory_read order files r h = record { manifest = h.number; edits = h.edits; layout = r.layout; tables = []; logs = h.contents }

pub plain_directory : (order : Order) (files : Files) (r : Recovered) (h : Recovers order files r) → r.layout.tables.items ≡ [] → IsConsistent order files (directory_read order files r h)
plain_directory order files r h plain = record {
  manifest = h.manifest;
  tables = tt;
  placed = sym plain;
  logs = h.live.logs;
  live = h.live.live;
  rising = h.live.rising;
  all = h.live.all;
  apart = tt;
  newer = λ e f i j. absurd j;
  sequences = h.live.sequences;
  recorded = λ f j. absurd j;
}

pub database_found : (order : Order) (files : Files) (r : Recovered) → Recovers order files r → r.next_number < 2 ^ 62 - 1
    → Finds order files (record { layout = r.layout; entries = r.entries; logs = r.logs; used = r.used; number = r.next_number })
database_found order files r h lt = record {
  what = inr (record { recovered = r; read = h; layout = refl; entries = refl; logs = refl; used = refl });
  number = number_is order files r.next_number h.next_number lt;
}

-- what was read is that of the directory, where it is consistent
pub parts_found : (order : Order) (files : Files) (found : Found) (d : Directory) → RecoveredLaw → FindsDirectory order files found → IsConsistent order files d
    → IsSameLayout d.layout found.layout × (logged d.logs ≡ found.entries.items) × (used_in d ≡ found.used)
parts_found order files found d law some good =
    let parts = law order files some.recovered d some.read good in
    (subst (λ (l : Layout). IsSameLayout d.layout l) (sym some.layout) parts.0, parts.1 ∙ sym some.entries, parts.2 ∙ sym some.used)

-- ---- an open

-- What a look finds after a listing, there was before it.
pub found_before : (order : Order) (old mid : Facts) (listing : Listing) (o found : Option Recovered) → (IsTrue mid.faithful → mid.files ≡ old.files) → (IsTrue mid.faithful → IsListing old.files listing) → IsTrue mid.faithful
    → (IsListing mid.files listing → IsFound order mid.files o) → o ≡ found → IsFound order old.files found
found_before order old mid listing o found same l f h is =
    let F : Files → Type 0 = λ fs. IsFound order fs o in
    let L : Files → Type 0 = λ fs. IsListing fs listing in
    subst (λ (x : Option Recovered). IsFound order old.files x) is (subst F (same f) (h (subst L (sym (same f)) (l f))))

empty_refused : (order : Order) (mode : Mode) (e : DbError) (old new : Facts) (listing : Listing) → (IsTrue new.faithful → IsListing old.files listing) → (IsTrue new.faithful → IsEmpty old.files) → RefusesEmpty mode e listing → RefusesOpen order mode e old new
empty_refused order mode error.OutOfMemory old new listing l empty h = tt
empty_refused order mode error.NoDatabase old new listing l empty h = λ f. (h, empty f)
empty_refused order mode error.NumbersSpent old new listing l empty h = λ f m free. h order old.files m (l f) (empty f) free
empty_refused order mode _ old new listing l empty h = absurd h

-- why an open of an empty directory ends
pub empty_refuses : (order : Order) (mode : Mode) (old new : Facts) (listing : Listing) (r : Result Found DbError) → (IsTrue new.faithful → IsListing old.files listing) → (IsTrue new.faithful → IsEmpty old.files)
    → IfErr r (λ e. RefusesEmpty mode e listing) → IfErr r (λ e. RefusesOpen order mode e old new)
empty_refuses order mode old new listing (Ok x) l empty h = tt
empty_refuses order mode old new listing (Err e) l empty h = empty_refused order mode e old new listing l empty h

-- ---- an empty directory

-- it has no `CURRENT`
pub no_current_in : (files : Files) (listing : Listing) → IsListing files listing → IsEmpty files → listing.has_current ≡ false
no_current_in files listing l empty = l.current ∙ ap is_some empty.current
