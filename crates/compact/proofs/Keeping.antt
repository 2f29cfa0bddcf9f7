-- What a compaction leaves of the views.
use Rattle.std.proofs.Common.{◌≡◌, ◌⊎◌, ◌<◌, ◌≤◌, ℕ, zero, suc, Bool, true, false, Option, Some, None, IsTrue, IsSome, List, [], ◌∷◌, ◌++◌, inl, inr, refl, sym, ap, subst, ◌∙◌, arith}
use Rattle.std.specs.Prelude.{Contains}
use Rattle.std.specs.FinMap.{get}
use Rattle.std.specs.Str.{bytes_eq}
use Rattle.std.proofs.lemmas.Slice.Eq.{bytes_eq-Decides}
use Rattle.std.proofs.lemmas.Bool.{cases_lt}
use Rattle.ikey.specs.declared.entry.Entry.{Entry}
use Rattle.ikey.specs.Views.{Among, Contents, IsNewest, IsUnseen, IsView}
use Rattle.compact.specs.Lists.{IsPartWith}
use Rattle.compact.specs.Needed.{IsSeenBySome, IsNeeded, AreNeeded}
use Rattle.compact.specs.Laws.{AreNewerOrDeep, SeesAsOne, KeepsViews, KeepsNeeded, LeavesPairs, ViewsAreOfSets}
use Rattle.compact.proofs.Parts.{Among-left, Among-right, Among-parts, part-members, part-has, part-all}

-- ---- cases

true_or_not : (b : Bool) → (b ≡ true) ⊎ (b ≡ true → ⊥)
true_or_not true = inl refl
true_or_not false = inr (λ h. cc)

same_or_other : (a b : List ℕ) → (a ≡ b) ⊎ (a ≡ b → ⊥)
same_or_other a b =
    elim (true_or_not (bytes_eq a b)) [
      | inl h ↦ inl ((bytes_eq-Decides a b).0 h)
      | inr n ↦ inr (λ e. n ((bytes_eq-Decides a b).1 e))
    ]

none_or_some : (value : Option (List ℕ)) → (value ≡ None) ⊎ IsSome value
none_or_some None = inl refl
none_or_some (Some v) = inr refl

not_both : (value : Option (List ℕ)) → IsSome value → value ≡ None → ⊥
not_both None some e = cc
not_both (Some v) some e = cc

-- whether it belongs to the part was decided
part-decides : {A : Type 0} (P : A → Type 0) (xs ys : List A) (x : A) → IsPartWith P xs ys → Among xs x → P x ⊎ (P x → ⊥)
part-decides P [] ys x h m = absurd m
part-decides {A} P (first ∷ xs) ys x (inl (q, rest, is, h)) (inl e) = inl (subst P (sym e) q)
part-decides P (first ∷ xs) ys x (inl (q, rest, is, h)) (inr m) = part-decides P xs rest x h m
part-decides P (first ∷ xs) ys x (inr (n, h)) (inl e) = inr (λ p. n (subst P e p))
part-decides P (first ∷ xs) ys x (inr (n, h)) (inr m) = part-decides P xs ys x h m

-- ---- the newest entry of a key

newest_or_unseen : (entries : List Entry) (p : ℕ) (key : List ℕ) → ((entry : Entry) × IsNewest entries p entry × (entry.key ≡ key)) ⊎ IsUnseen entries p key
newest_or_unseen [] p key = inr (λ entry m is. absurd m)
newest_or_unseen (first ∷ entries) p key =
    let P = ((entry : Entry) × IsNewest (first ∷ entries) p entry × (entry.key ≡ key)) ⊎ IsUnseen (first ∷ entries) p key in
    let rest = newest_or_unseen entries p key in
    -- the first entry isn't seen, or is of another key
    let beside : (first.key ≡ key → first.sequence ≤ p → ⊥) → P = λ hidden. elim rest [
      | inl found ↦ inl (
        found.0,
        record {
          member = inr found.1.member;
          seen = found.1.seen;
          greatest = λ other m is up. elim m [
            | inl e ↦ absurd (hidden (sym (ap (λ (o : Entry). o.key) e) ∙ is ∙ found.2) (let at : other.sequence ≡ first.sequence = ap (λ (o : Entry). o.sequence) e in omega (arith, at, up)))
            | inr n ↦ found.1.greatest other n is up
          ];
        },
        found.2,
      )
      | inr unseen ↦ inr (λ entry m is. elim m [
        | inl e ↦ elim (cases_lt p entry.sequence) [
          | inl l ↦ l
          | inr g ↦ absurd (hidden (sym (ap (λ (o : Entry). o.key) e) ∙ is) (let at : entry.sequence ≡ first.sequence = ap (λ (o : Entry). o.sequence) e in omega (arith, at, g)))
        ]
        | inr n ↦ unseen entry n is
      ])
    ] in
    elim (same_or_other first.key key) [
      | inr other ↦ beside (λ is up. other is)
      | inl same ↦ elim (cases_lt p first.sequence) [
        | inl late ↦ beside (λ is up. omega (arith, late, up))
        | inr seen ↦ elim rest [
          | inr unseen ↦ inl (
            first,
            record {
              member = inl refl;
              seen = seen;
              greatest = λ other m is up. elim m [
                | inl e ↦ (let at : other.sequence ≡ first.sequence = ap (λ (o : Entry). o.sequence) e in omega (arith, at))
                | inr n ↦ absurd (omega (arith, unseen other n (is ∙ same), up))
              ];
            },
            same,
          )
          | inl found ↦ elim (cases_lt found.0.sequence first.sequence) [
            | inl newer ↦ inl (
              first,
              record {
                member = inl refl;
                seen = seen;
                greatest = λ other m is up. elim m [
                  | inl e ↦ (let at : other.sequence ≡ first.sequence = ap (λ (o : Entry). o.sequence) e in omega (arith, at))
                  | inr n ↦ omega (arith, found.1.greatest other n (is ∙ same ∙ sym found.2) up, newer)
                ];
              },
              same,
            )
            | inr older ↦ inl (
              found.0,
              record {
                member = inr found.1.member;
                seen = found.1.seen;
                greatest = λ other m is up. elim m [
                  | inl e ↦ (let at : other.sequence ≡ first.sequence = ap (λ (o : Entry). o.sequence) e in omega (arith, at, older))
                  | inr n ↦ found.1.greatest other n is up
                ];
              },
              found.2,
            )
          ]
        ]
      ]
    ]

-- ---- what isn't needed

put-needed : (entries : List Entry) (sequences : List ℕ) (deep : List ℕ → Bool) (entry : Entry) → IsSeenBySome entries sequences entry → IsSome entry.value → IsNeeded entries sequences deep entry
put-needed entries sequences deep entry visible some = record { visible = visible; hides = λ none. absurd (not_both entry.value some none) }

needless-delete : (entries : List Entry) (sequences : List ℕ) (deep : List ℕ → Bool) (entry : Entry) → IsSeenBySome entries sequences entry → (IsNeeded entries sequences deep entry → ⊥) → entry.value ≡ None
needless-delete entries sequences deep entry visible needless =
    elim (none_or_some entry.value) [ inl none ↦ none | inr some ↦ absurd (needless (put-needed entries sequences deep entry visible some)) ]

-- an older one of its key that is needed would make it needed
needless-below : (entries : List Entry) (sequences : List ℕ) (deep : List ℕ → Bool) (entry older : Entry) → IsSeenBySome entries sequences entry → (IsNeeded entries sequences deep entry → ⊥)
    → IsNeeded entries sequences deep older → older.key ≡ entry.key → older.sequence < entry.sequence → ⊥
needless-below entries sequences deep entry older visible needless needed same less =
    needless (record {
      visible = visible;
      hides = λ none. elim (none_or_some older.value) [
        | inr some ↦ inr (older, record { same_key = same; older = less; is_put = some; visible = needed.visible })
        | inl nothing ↦ elim (needed.hides nothing) [
          | inl covered ↦ inl (subst (λ (k : List ℕ). IsTrue (deep k)) same covered)
          | inr found ↦ inr (found.0, record { same_key = found.1.same_key ∙ same; older = omega (arith, found.1.older, less); is_put = found.1.is_put; visible = found.1.visible })
        ]
      ];
    })

-- ---- views

module _ (entries needed others : List Entry) (sequences : List ℕ) (deep : List ℕ → Bool) (p : ℕ)
    (part : AreNeeded entries sequences deep needed) (apart : AreNewerOrDeep entries others deep) (sees : SeesAsOne entries sequences p) where
  newest-visible : (m : Entry) → IsNewest entries p m → IsSeenBySome entries sequences m
  newest-visible m newest = (
    sees.0,
    sees.1,
    record {
      member = newest.member;
      seen = sees.3 m newest.member newest.seen;
      greatest = λ other n same up. newest.greatest other n same (omega (arith, up, sees.2));
    },
  )

  member-of : (x : Entry) → Among (needed ++ others) x → Among (entries ++ others) x
  member-of x m = elim (Among-parts needed others x m) [
    | inl n ↦ Among-left entries others x (part-members (IsNeeded entries sequences deep) entries needed x part n).0
    | inr o ↦ Among-right entries others x o
  ]

  -- the newest of all entries of its key isn't newer than that of those which are left
  no-newer : (x m : Entry) → IsNewest (needed ++ others) p x → IsNewest entries p m → m.key ≡ x.key → m.sequence ≤ x.sequence
  no-newer x m newest most same =
      elim (part-decides (IsNeeded entries sequences deep) entries needed m part most.member) [
        | inl is ↦ newest.greatest m (Among-left needed others m (part-has (IsNeeded entries sequences deep) entries needed m part most.member is)) same most.seen
        | inr needless ↦ elim (Among-parts needed others x newest.member) [
          | inr o ↦ elim (apart m x most.member o (sym same)) [
            | inl less ↦ omega (arith, less)
            | inr covered ↦ absurd (needless (record { visible = newest-visible m most; hides = λ none. inl covered }))
          ]
          | inl n ↦ elim (cases_lt x.sequence m.sequence) [
            | inr le ↦ le
            | inl less ↦ absurd (needless-below entries sequences deep m x (newest-visible m most) needless
                (part-members (IsNeeded entries sequences deep) entries needed x part n).1 (sym same) less)
          ]
        ]
      ]

  newest-all : (x : Entry) → IsNewest (needed ++ others) p x → IsNewest (entries ++ others) p x
  newest-all x newest = record {
    member = member-of x newest.member;
    seen = newest.seen;
    greatest = λ other m same up. elim (Among-parts entries others other m) [
      | inr o ↦ newest.greatest other (Among-right needed others other o) same up
      | inl e ↦ elim (newest_or_unseen entries p x.key) [
        | inr unseen ↦ absurd (omega (arith, unseen other e same, up))
        | inl found ↦ omega (arith, found.1.greatest other e (same ∙ sym found.2) up, no-newer x found.0 newest found.1 found.2)
      ]
    ];
  }

  missing-all : (map : Contents) → IsView (entries ++ others) p map → (key : List ℕ) → IsUnseen (needed ++ others) p key → get map key ≡ None
  missing-all map view key unseen =
      elim (newest_or_unseen entries p key) [
        | inr none ↦ view.missing key (λ x m same. elim (Among-parts entries others x m) [
          | inl e ↦ none x e same
          | inr o ↦ unseen x (Among-right needed others x o) same
        ])
        | inl found ↦ elim (part-decides (IsNeeded entries sequences deep) entries needed found.0 part found.1.member) [
          | inl is ↦ absurd (omega (arith, found.1.seen, unseen found.0 (Among-left needed others found.0 (part-has (IsNeeded entries sequences deep) entries needed found.0 part found.1.member is)) found.2))
          | inr needless ↦
              let all : IsNewest (entries ++ others) p found.0 = record {
                member = Among-left entries others found.0 found.1.member;
                seen = found.1.seen;
                greatest = λ other m same up. elim (Among-parts entries others other m) [
                  | inl e ↦ found.1.greatest other e same up
                  | inr o ↦ absurd (omega (arith, unseen other (Among-right needed others other o) (same ∙ found.2), up))
                ];
              } in
              ap (get map) (sym found.2) ∙ view.found found.0 all ∙ needless-delete entries sequences deep found.0 (newest-visible found.0 found.1) needless
        ]
      ]

pub keeps_views : KeepsViews
keeps_views entries needed others sequences deep p map part apart sees view = record {
  found = λ x newest. view.found x (newest-all entries needed others sequences deep p part apart sees x newest);
  missing = missing-all entries needed others sequences deep p part apart sees map view;
}

-- ---- once more

newest-among : (entries fewer : List Entry) (p : ℕ) (x : Entry) → ((y : Entry) → Among fewer y → Among entries y) → Among fewer x → IsNewest entries p x → IsNewest fewer p x
newest-among entries fewer p x inside m newest = record { member = m; seen = newest.seen; greatest = λ other n same up. newest.greatest other (inside other n) same up }

pub keeps_needed : KeepsNeeded
keeps_needed entries needed sequences deep part =
    let inside : (y : Entry) → Among needed y → Among entries y = λ y n. (part-members (IsNeeded entries sequences deep) entries needed y part n).0 in
    part-all (IsNeeded needed sequences deep) needed (λ x m.
    let h : IsNeeded entries sequences deep x = (part-members (IsNeeded entries sequences deep) entries needed x part m).1 in
    record {
      visible = (h.visible.0, h.visible.1, newest-among entries needed h.visible.0 x inside m h.visible.2);
      hides = λ none. elim (h.hides none) [
        | inl covered ↦ inl covered
        | inr found ↦
            let put = found.0 in
            let is : Among needed put = part-has (IsNeeded entries sequences deep) entries needed put part found.1.visible.2.member (put-needed entries sequences deep put found.1.visible found.1.is_put) in
            inr (
              put,
              record {
                same_key = found.1.same_key;
                older = found.1.older;
                is_put = found.1.is_put;
                visible = (found.1.visible.0, found.1.visible.1, newest-among entries needed found.1.visible.0 put inside is found.1.visible.2);
              },
            )
      ];
    })

-- ---- one sequence number

contains-one : (last q : ℕ) → Contains (last ∷ []) q → q ≡ last
contains-one last q (zero, lt, e) = sym e
contains-one last q (suc k, lt, e) = absurd (omega (arith, lt))

one-newest : (entries : List Entry) (last : ℕ) (x : Entry) → IsSeenBySome entries (last ∷ []) x → IsNewest entries last x
one-newest entries last x (q, has, newest) = subst (λ (n : ℕ). IsNewest entries n x) (contains-one last q has) newest

pub leaves_pairs : LeavesPairs
leaves_pairs entries needed deep last map shallow distinct view part =
    let N = IsNeeded entries (last ∷ []) deep in
    let inside = λ (x : Entry) (m : Among needed x). part-members N entries needed x part m in
    let newest : (x : Entry) → Among needed x → IsNewest entries last x = λ x m. one-newest entries last x (inside x m).1.visible in
    let value : (x : Entry) → Among needed x → IsSome x.value = λ x m. elim (none_or_some x.value) [
      | inr some ↦ some
      | inl none ↦ elim ((inside x m).1.hides none) [
        | inl covered ↦ absurd (shallow x.key covered)
        | inr found ↦
            let least = (one-newest entries last found.0 found.1.visible).greatest x (inside x m).0 (sym found.1.same_key) (newest x m).seen in
            absurd (omega (arith, least, found.1.older))
      ]
    ] in
    record {
      puts = λ x m. (value x m, view.found x (newest x m));
      all = λ key v is. elim (newest_or_unseen entries last key) [
        | inr unseen ↦ absurd (let t : None ≡ Some v = sym (view.missing key unseen) ∙ is in cc)
        | inl found ↦
            let holds : found.0.value ≡ Some v = sym (view.found found.0 found.1) ∙ ap (get map) found.2 ∙ is in
            let visible : IsSeenBySome entries (last ∷ []) found.0 = (last, (0, omega arith, refl), found.1) in
            let some : IsSome found.0.value = subst IsSome (sym holds) refl in
            (found.0, part-has N entries needed found.0 part found.1.member (put-needed entries (last ∷ []) deep found.0 visible some), found.2, holds)
      ];
      once = λ x y m n same.
          let up = (newest x m).greatest y (inside y n).0 same (newest y n).seen in
          let down = (newest y n).greatest x (inside x m).0 (sym same) (newest x m).seen in
          distinct x y (inside x m).0 (inside y n).0 same (omega (arith, up, down));
    }

pub views_are_of_sets : ViewsAreOfSets
views_are_of_sets entries others p map to back view = record {
  found = λ x newest. view.found x (record {
    member = back x newest.member;
    seen = newest.seen;
    greatest = λ other m same up. newest.greatest other (to other m) same up;
  });
  missing = λ key unseen. view.missing key (λ x m same. unseen x (to x m) same);
}
