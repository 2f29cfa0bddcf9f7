-- How many of the obsolete files a removal leaves.
use Rattle.std.proofs.Common.{◌≡◌, ◌≢◌, ◌↔◌, ℕ, ◌<◌, Bool, true, false, List, [], ◌∷◌, ◌++◌, length-append, Result, Ok, Err, IsTrue, inl, inr, refl, sym, subst, ◌∙◌, arith}
use Rattle.std.specs.Prelude.{Contains}
use Rattle.std.specs.FinMap.{contains_key}
use Rattle.std.specs.Result.{is_ok}
use Rattle.std.proofs.lemmas.Bool.{cases_eq}
use Rattle.std.proofs.lemmas.List.Elements.{Contains-append_left, Contains-append_right, Contains-push_cases}
use Rattle.store.specs.Files.{Files, Facts, Lists}
use Rattle.store.specs.Calls.{Counts}
use Rattle.store.specs.declared.error.StoreError.{StoreError}
use Rattle.store.specs.declared.error.StoreError.TheVariants as store_error
use Rattle.edits.specs.Names.{name_of, IsFileName}
use Rattle.edits.specs.declared.names.FileName.{FileName}
use Rattle.edits.specs.declared.names.FileName.TheVariants.{Current, Lock, Log, Manifest, Table, OldTable, Temporary}
use Rattle.recover.proofs.NameScan.{first_in, in_cons, in_none, name_listed}
use Rattle.directory_writes.specs.internal.Calls.{Touches}
use Rattle.directory_writes.specs.internal.Removal.{HasOlderToo, HasTwo, IsLeft, LeavesFew, RemovesNamed}
use Rattle.directory_writes.proofs.Cleaning.{Knows, gone_later}

-- nothing waits in a turn
abbrev pub NoneWaits : FileName → Type 0
NoneWaits file = ⊥

-- these names
abbrev pub Among : List (List ℕ) → List ℕ → Type 0
Among names name = Contains names name

-- ---- one name

pub few_live : (facts : Facts) (live : FileName → Type 0) (name : List ℕ) → RemovesNamed facts facts live (name ∷ []) true → LeavesFew facts facts live NoneWaits (Among (name ∷ []))
few_live facts live name r f = (
  [],
  omega arith,
  λ file is i. elim (r.all f refl file is i) [
    | inl alive ↦ inl alive
    | inr gone ↦ inr (inl gone)
  ],
)

-- it is that of no file
pub few_other : (facts : Facts) (live : FileName → Type 0) (name : List ℕ) → ((file : FileName) → IsFileName file → name ≡ name_of file → ⊥) → LeavesFew facts facts live NoneWaits (Among (name ∷ []))
few_other facts live name other f = (
  [],
  omega arith,
  λ file is i. elim (in_cons name [] (name_of file) i) [
    | inl same ↦ absurd (other file is same)
    | inr later ↦ absurd (in_none (name_of file) later)
  ],
)

pub few_asked : (old new : Facts) (live : FileName → Type 0) (name : List ℕ) (b : Bool) (r : Result (Unit {0}) StoreError) → Counts old new r → b ≡ is_ok r
    → r ≢ Err store_error.Missing → r ≢ Err store_error.Memory → RemovesNamed old new live (name ∷ []) b → LeavesFew old new live NoneWaits (Among (name ∷ []))
few_asked old new live name b (Ok x) counts e missing memory removes f = (
  [],
  omega (arith, counts.failures),
  λ file is i. elim (removes.all f e file is i) [
    | inl alive ↦ inl alive
    | inr gone ↦ inr (inl gone)
  ],
)
few_asked old new live name b (Err store_error.Missing) counts e missing memory removes f = absurd (missing refl)
few_asked old new live name b (Err store_error.Memory) counts e missing memory removes f = absurd (memory refl)
few_asked old new live name b (Err store_error.Device) counts e missing memory removes f =
    let rise : old.failures < new.failures = counts.device refl in
    (name ∷ [], omega (arith, rise), λ file is i. inr (inr (inl i)))

-- ---- one name after another

pub few_none : (facts : Facts) (live : FileName → Type 0) → LeavesFew facts facts live NoneWaits (Among [])
few_none facts live f = ([], omega arith, λ file is i. absurd (in_none (name_of file) i))

module _ (old mid new : Facts) (live : FileName → Type 0) (before : Touches old mid) (behind : Touches mid new) where
  pub few_more : (names : List (List ℕ)) (name : List ℕ) (b : Bool) → LeavesFew old mid live NoneWaits (Among names) → LeavesFew mid new live NoneWaits (Among (name ∷ [])) → RemovesNamed mid new live (name ∷ []) b
      → LeavesFew old new live NoneWaits (Among (names ++ name ∷ []))
  few_more names name b first next removes f =
      let one = first (behind.faithful f) in
      let two = next f in
      let long = length-append one.0 two.0 in (
        one.0 ++ two.0,
        omega (arith, one.1, two.1, long),
        λ file is i. elim (Contains-push_cases names name (name_of file) i) [
          | inl earlier ↦ elim (one.2 file is earlier) [
            | inl alive ↦ inl alive
            | inr more ↦ elim more [
              | inl gone ↦ inr (inl (gone_later mid new live (name_of file) (removes.files f (name_of file)) gone))
              | inr other ↦ elim other [
                | inl left ↦ inr (inr (inl (Contains-append_left one.0 two.0 (name_of file) left)))
                | inr waits ↦ absurd waits.0
              ]
            ]
          ]
          | inr here ↦ let P : List ℕ → Type 0 = λ n. Contains (name ∷ []) n in elim (two.2 file is (subst P here (first_in name []))) [
            | inl alive ↦ inl alive
            | inr more ↦ elim more [
              | inl gone ↦ inr (inl gone)
              | inr other ↦ elim other [
                | inl left ↦ inr (inr (inl (Contains-append_right one.0 two.0 (name_of file) left)))
                | inr waits ↦ absurd waits.0
              ]
            ]
          ]
        ],
      )

-- ---- the turns

module _ (live : FileName → Type 0) (has_older : ℕ → Type 0) where
  pub few_first : (old new : Facts) (names : List (List ℕ)) (c : Bool) → c ≡ false → Touches old new → RemovesNamed old new (IsLeft live has_older false) names c
      → LeavesFew old new (IsLeft live has_older false) NoneWaits (Among names) → LeavesFew old new live (HasTwo has_older) (Among names)
  few_first old new names c failed call removes few f =
      let one = few f in (
        one.0,
        one.1,
        λ file is i. elim (one.2 file is i) [
          | inl stays ↦ elim stays [
            | inl alive ↦ inl alive
            | inr two ↦ inr (inr (inr (two, rise)))
          ]
          | inr more ↦ elim more [
            | inl gone ↦ inr (inl gone)
            | inr other ↦ elim other [
              | inl left ↦ inr (inr (inl left))
              | inr waits ↦ absurd waits.0
            ]
          ]
        ],
      )
    where
      rise : old.failures < new.failures
      rise = elim (cases_eq new.failures old.failures) [
        | inl same ↦ (let clash : true ≡ false = sym (removes.unfailed same) ∙ failed in absurd (cc))
        | inr ne ↦ omega (arith, call.failures, ne)
      ]

  pub few_both : (old mid new : Facts) (names : List (List ℕ)) (b : Bool) → Touches old mid → Touches mid new
      → LeavesFew old mid (IsLeft live has_older false) NoneWaits (Among names) → LeavesFew mid new (IsLeft live has_older true) NoneWaits (Among names) → RemovesNamed mid new (IsLeft live has_older true) names b
      → LeavesFew old new live (HasTwo has_older) (Among names)
  few_both old mid new names b before behind first next removes f =
      let one = first (behind.faithful f) in
      let two = next f in
      let long = length-append one.0 two.0 in (
        one.0 ++ two.0,
        omega (arith, one.1, two.1, long),
        λ file is i. elim (one.2 file is i) [
          | inl stays ↦ elim stays [
            | inl alive ↦ inl alive
            | inr has ↦ elim (two.2 file is i) [
              | inl later ↦ elim later [
                | inl alive ↦ inl alive
                | inr single ↦ absurd (single has)
              ]
              | inr more ↦ elim more [
                | inl gone ↦ inr (inl gone)
                | inr other ↦ elim other [
                  | inl left ↦ inr (inr (inl (Contains-append_right one.0 two.0 (name_of file) left)))
                  | inr waits ↦ absurd waits.0
                ]
              ]
            ]
          ]
          | inr more ↦ elim more [
            | inl gone ↦ inr (inl (gone_later mid new (IsLeft live has_older true) (name_of file) (removes.files f (name_of file)) gone))
            | inr other ↦ elim other [
              | inl left ↦ inr (inr (inl (Contains-append_left one.0 two.0 (name_of file) left)))
              | inr waits ↦ absurd waits.0
            ]
          ]
        ],
      )

-- ---- all files

newer_of_two : (files : Files) (both : List ℕ) → Knows files both → (file : FileName) → IsFileName file → HasTwo (λ n. Contains both n) file → HasOlderToo files file
newer_of_two files both knows (Table n) is has = ((knows n is).0 has).1
newer_of_two files both knows Current is has = has
newer_of_two files both knows Lock is has = has
newer_of_two files both knows (Log n) is has = has
newer_of_two files both knows (OldTable n) is has = has
newer_of_two files both knows (Manifest n) is has = has
newer_of_two files both knows (Temporary n) is has = has

pub few_as : (old new : Facts) (live other waits : FileName → Type 0) (listed : List ℕ → Type 0) → (IsTrue new.faithful → (file : FileName) → IsFileName file → live file ↔ other file)
    → LeavesFew old new live waits listed → LeavesFew old new other waits listed
few_as old new live other waits listed same few f =
    let one = few f in (
      one.0,
      one.1,
      λ file is i. elim (one.2 file is i) [
        | inl alive ↦ inl ((same f file is).0 alive)
        | inr more ↦ inr more
      ],
    )

pub few_all : (live : FileName → Type 0) (old mid new : Facts) (names : List (List ℕ)) (both : List ℕ) → (IsTrue mid.faithful → Lists old.files names) → mid.failures ≡ old.failures → (IsTrue mid.faithful → Knows old.files both) → Touches mid new
    → LeavesFew mid new live (HasTwo (λ n. Contains both n)) (Among names) → LeavesFew old new live (HasOlderToo old.files) (λ name. contains_key old.files name ≡ true)
few_all live old mid new names both lists unfailed knows call few f =
    let one = few f in
    let listing = lists (call.faithful f) in (
      one.0,
      omega (arith, one.1, unfailed),
      λ file is there. elim (one.2 file is (name_listed old.files names (name_of file) listing there)) [
        | inl alive ↦ inl alive
        | inr more ↦ elim more [
          | inl gone ↦ inr (inl gone)
          | inr other ↦ elim other [
            | inl left ↦ inr (inr (inl left))
            | inr waits ↦ inr (inr (inr (newer_of_two old.files both (knows (call.faithful f)) file is waits.0, omega (arith, waits.1, unfailed))))
          ]
        ]
      ],
    )
