-- The files that a power loss left, mended: as what name after name may be left without zeros.
use Rattle.std.proofs.Common.{◌≡◌, ◌⊎◌, ◌≤◌, inl, inr, ℕ, List, [], ◌∷◌, length, take, drop, Option, Some, None, is_some, refl, sym, ap, subst, ◌∙◌}
use Rattle.std.specs.FinMap.{get, contains_key}
use Rattle.edits.specs.Names.{name_of}
use Rattle.edits.specs.declared.layout.Layout.{Layout}
use Rattle.edits.specs.declared.names.FileName.{FileName}
use Rattle.store.specs.Files.{Call, Disk, Files, disk_of, lock_name}
use Rattle.store.specs.Losses.{BeginsWith, IsLost, IsLostSince, behind_sync, disk_before, held_last}
use Rattle.mending.specs.Cutting.{Becomes, IsCut}
use Rattle.mending.specs.Mending.{IsLogged, temporary_of}
use Rattle.mending.specs.Plans.{IsMine}
use Rattle.mending.specs.declared.ends.Ends.{Ends}
use Rattle.mending.proofs.AppliedCuts.{apart_from}
use Rattle.mending.proofs.Leaving.{lock_apart, mine_logged}
use Rattle.mending.proofs.Lost.{same_or_not}
use Rattle.mended_losses.specs.Laws.{AreMendedBy, MendedLossLaw, MendedLossesLaw}
use Rattle.mended_losses.specs.Losses.{IsHoledLost, IsHoledLostSince, IsSince}
use Rattle.mended_losses.specs.Reading.{AreNamed, HasFile, HasName, HoldsLogs, LeavesWritten, ReadsAs, ReadsSame}
use Rattle.mended_losses.proofs.Gathered.{gather}
use Rattle.mended_losses.proofs.OneLog.{one_log, same_long}
use Rattle.mended_losses.proofs.Shared.{shared, shared_whole}

pub same_some : (a b : List ℕ) → Some a ≡ Some b → a ≡ b
same_some a b e = cc

never : (x : List ℕ) (o : Option (List ℕ)) → o ≡ None → o ≡ Some x → ⊥
never x o none some = (let bad : None ≡ Some x = sym none ∙ some in cc)

-- one of these files has this name, or none
find_file : (logs : List FileName) (q : List ℕ) → ((file : FileName) × HasFile logs file × (q ≡ name_of file)) ⊎ ((file : FileName) → HasFile logs file → q ≡ name_of file → ⊥)
find_file [] q = inr (λ file none e. absurd none)
find_file (log ∷ logs) q = elim (same_or_not q (name_of log)) [
  | inl is ↦ inl (log, inl refl, is)
  | inr apart ↦ elim (find_file logs q) [
    | inl found ↦ inl (found.0, inr found.1, found.2)
    | inr none ↦ inr (λ file there e. elim there [ inl first ↦ apart (e ∙ ap name_of first) | inr later ↦ none file later e ])
  ]
]

-- What may be left of one name without zeros, and reads as what it is mended to.
record IsPlainAt (since : List Call) (now : Disk) (lost mended : Files) (logs : List FileName) (others : List (List ℕ)) (q : List ℕ) (o : Option (List ℕ)) : Type 0 where
  name : is_some o ≡ contains_key lost q
  beginning : (bytes : List ℕ) → o ≡ Some bytes → (held : List ℕ) × ((held_last since now q).0 ≡ Some held) × BeginsWith held bytes
  kept : (bytes synced : List ℕ) → o ≡ Some bytes → (held_last since now q).1 ≡ Some synced → BeginsWith bytes synced
  read : (file : FileName) (x y : List ℕ) → HasFile logs file → q ≡ name_of file → get mended q ≡ Some x → o ≡ Some y → ReadsSame x y
  same : HasName others q → o ≡ get lost q

module _ (at lost mended : Files) (since : List Call) (now : Disk) (name : List ℕ) (ends : Ends) (number : ℕ) (layout : Layout) (logs : List FileName) (others : List (List ℕ)) (h : IsHoledLost at since now lost)
    (m : AreMendedBy name ends number layout lost mended) (named : AreNamed number layout logs others) (w : HoldsLogs since now lost logs others) (written : LeavesWritten since now lost logs) where
  abbrev Plain : List ℕ → Option (List ℕ) → Type 0
  Plain q o = IsPlainAt since now lost mended logs others q o

  abbrev Choice : List ℕ → Type 0
  Choice q = (o : Option (List ℕ)) × (is_some o ≡ contains_key lost q) × Plain q o

  -- ---- a log

  logged : (file : FileName) → HasFile logs file → IsLogged file
  logged file there = mine_logged number layout file m.0.numbered (named.mine file there)

  beside_lock : (file : FileName) → HasFile logs file → name_of file ≡ lock_name → ⊥
  beside_lock file there = lock_apart file (logged file there)

  beside_temporary : (file : FileName) → HasFile logs file → (other : FileName) → IsMine number layout other → name_of file ≡ temporary_of other → ⊥
  beside_temporary file there other mine e = apart_from file other (logged file there) (mine_logged number layout other m.0.numbered mine) e

  -- it is there, and is what is left of it
  becomes : (file : FileName) (bytes : List ℕ) → HasFile logs file → get lost (name_of file) ≡ Some bytes → (x : List ℕ) × (get mended (name_of file) ≡ Some x) × Becomes ends bytes x
  becomes file bytes there is = elim (m.0.each (name_of file) (beside_lock file there) (beside_temporary file there)) [
    | inl same ↦
        let here = same ∙ is in
        (bytes, here, record { how = inl refl; readable = m.1 file (named.mine file there) bytes here })
    | inr cut ↦
        let held : cut.bytes ≡ bytes = same_some cut.bytes bytes (sym cut.held ∙ is) in
        (cut.front, cut.there, record { how = inr (subst (λ (b : List ℕ). IsCut ends b cut.front) held cut.cut); readable = cut.readable })
  ]

  log_at : (file : FileName) (bytes : List ℕ) → HasFile logs file → get lost (name_of file) ≡ Some bytes → Choice (name_of file)
  log_at file bytes there is =
      let q = name_of file in
      let hole = h.holed q bytes is in
      let now_is = becomes file bytes there is in
      let p = one_log ends hole.0 bytes now_is.0 (held_last since now q).1 (w.were file bytes hole.0 there is hole.1) (written file bytes hole.0 there is hole.1) hole.2 (λ synced k. h.kept q bytes synced is k) now_is.2 in (
        Some p.0,
        sym (ap is_some is),
        record {
          name = sym (ap is_some is);
          beginning = λ b e. (hole.0, hole.1, subst (λ (v : List ℕ). BeginsWith hole.0 v) (same_some p.0 b e) p.1);
          kept = λ b synced e k. subst (λ (v : List ℕ). BeginsWith v synced) (same_some p.0 b e) (p.2 synced k);
          read = λ other x y in_logs e mx py.
              let first : now_is.0 ≡ x = same_some now_is.0 x (sym now_is.1 ∙ mx) in
              subst (λ (v : List ℕ). ReadsSame x v) (same_some p.0 y py) (subst (λ (v : List ℕ). ReadsSame v p.0) first p.3);
          same = λ other. absurd (((named.beside q other).1 file (named.mine file there)).1 refl);
        },
      )

  -- ---- another file

  -- whole, if it is read
  left_whole : (q bytes held : List ℕ) → get lost q ≡ Some bytes → (held_last since now q).0 ≡ Some held → length bytes ≤ length held → HasName others q → bytes ≡ held
  left_whole q bytes held is holds short other = elim (w.whole q held other holds) [
    | inl k ↦ same_long bytes held (h.kept q bytes held is k) short
    | inr whole ↦ whole bytes is
  ]

  other_at : (q bytes : List ℕ) → get lost q ≡ Some bytes → ((file : FileName) → HasFile logs file → q ≡ name_of file → ⊥) → Choice q
  other_at q bytes is none =
      let hole = h.holed q bytes is in
      let p = shared hole.0 bytes in (
        Some p.0,
        sym (ap is_some is),
        record {
          name = sym (ap is_some is);
          beginning = λ b e. (hole.0, hole.1, subst (λ (v : List ℕ). BeginsWith hole.0 v) (same_some p.0 b e) p.1.one);
          kept = λ b synced e k. subst (λ (v : List ℕ). BeginsWith v synced) (same_some p.0 b e) (p.1.most synced (w.sound q hole.0 synced hole.1 k) (h.kept q bytes synced is k));
          read = λ file x y there e mx py. absurd (none file there e);
          same = λ other. ap Some (shared_whole hole.0 bytes p.0 p.1 (left_whole q bytes hole.0 is hole.1 hole.2.short other)) ∙ sym is;
        },
      )

  -- ---- all of them

  choose_at : (q : List ℕ) (o : Option (List ℕ)) → get lost q ≡ o → Choice q
  choose_at q None is = (
    None,
    sym (ap is_some is),
    record {
      name = sym (ap is_some is);
      beginning = λ b e. absurd (never b None refl e);
      kept = λ b other e l. absurd (never b None refl e);
      read = λ file x y there e mx py. absurd (never y None refl py);
      same = λ other. sym is;
    },
  )
  choose_at q (Some bytes) is = elim (find_file logs q) [
    | inl found ↦ subst Choice (sym found.2) (log_at found.0 bytes found.1 (ap (λ (n : List ℕ). get lost n) (sym found.2) ∙ is))
    | inr none ↦ other_at q bytes is none
  ]

  pub one_loss : (plain : Files) × IsLost at since now plain × ReadsAs number layout logs others mended plain
  one_loss =
      let p = gather lost Plain (λ q. choose_at q (get lost q) refl) in (
        p.0,
        record {
          names = λ q. (p.1 q).name ∙ h.names q;
          beginning = λ q b e. (p.1 q).beginning b e;
          kept = λ q b synced e k. (p.1 q).kept b synced e k;
        },
        record {
          names = λ q lock apart. elim (m.0.each q lock apart) [
            | inl same ↦ ap is_some same ∙ sym (p.1 q).name
            | inr cut ↦ ap is_some cut.there ∙ sym (ap is_some cut.held) ∙ sym (p.1 q).name
          ];
          read = λ file x y there mx py. (p.1 (name_of file)).read file x y there refl mx py;
          same = λ q other.
              let beside = named.beside q other in
              elim (m.0.each q beside.0 (λ file mine e. (beside.1 file mine).0 e)) [
                | inl same ↦ same ∙ sym ((p.1 q).same other)
                | inr cut ↦ absurd ((beside.1 cut.file cut.mine).1 cut.named)
              ];
        },
      )

pub one_moment : MendedLossLaw
one_moment at lost mended since now name ends number layout logs others h m named w written = one_loss at lost mended since now name ends number layout logs others h m named w written

-- ---- at any moment

module _ (lost mended : Files) (name : List ℕ) (ends : Ends) (number : ℕ) (layout : Layout) (logs : List FileName) (others : List (List ℕ)) (m : AreMendedBy name ends number layout lost mended) (named : AreNamed number layout logs others) where
  abbrev HoldsAt : List Call → Disk → Type 0
  HoldsAt since now = HoldsLogs since now lost logs others × LeavesWritten since now lost logs

  at_moment : (at : Files) (since : List Call) (now : Disk) → IsHoledLost at since now lost → HoldsAt since now → (plain : Files) × IsLost at since now plain × ReadsAs number layout logs others mended plain
  at_moment at since now h w = one_moment at lost mended since now name ends number layout logs others h m named w.0 w.1

  since_each : (calls : List Call) (now : Disk) → ((at : Files) (since : List Call) → IsSince calls now at since → IsHoledLost at since now lost → HoldsAt since now) → IsHoledLostSince calls now lost
      → (plain : Files) × IsLostSince calls now plain × ReadsAs number layout logs others mended plain
  since_each [] now w h = at_moment now.files [] now h (w now.files [] (refl, refl) h)
  since_each (call ∷ calls) now w (inl h) =
      let p = at_moment call.found.files (call ∷ calls) now h (w call.found.files (call ∷ calls) (inl (refl, refl)) h) in
      (p.0, inl p.1, p.2)
  since_each (call ∷ calls) now w (inr h) =
      let p = since_each calls now (λ at since one. w at since (inr one)) h in
      (p.0, inr p.1, p.2)

pub each_moment : MendedLossesLaw
each_moment facts t lost mended name ends number layout logs others h m named w =
    let now : Disk = disk_before (drop h.0 facts.calls) (disk_of facts) in
    let p = since_each lost mended name ends number layout logs others m named (behind_sync [] (take h.0 facts.calls)) now (λ at since one. w at since now (h.0, h.1, h.2, refl, one)) h.3 in
    (p.0, (h.0, h.1, h.2, p.1), p.2)
