-- What logs hold is newer than what tables hold.
use Rattle.std.proofs.Common.{◌≡◌, inl, inr, max, List, [], ◌∷◌, ◌++◌, sym, ap, ◌∙◌, subst, arith}
use Rattle.std.proofs.lemmas.List.{append-nil}
use Rattle.ikey.specs.declared.entry.Entry.{Entry}
use Rattle.ikey.specs.Sources.{IsNewerThan, joined}
use Rattle.ikey.specs.Views.{Among}
use Rattle.ikey.proofs.SearchedSources as sources
use Rattle.recover.specs.Directory.{Directory}
use Rattle.recover.specs.Entries.{RiseAbove, greatest}
use Rattle.recover.specs.Logs.{LogContent, batch_entries, logged}
use Rattle.recover.specs.Tables.{tabled}
use Rattle.recover.proofs.Adding.{above, logged-append}
use Rattle.recover.proofs.Memberships.{up_to_greatest}
use Rattle.recover.proofs.Replayed.{rise_split}
use Rattle.version_laws.specs.Laws.{MemoryLaw}

-- what rises after is newer
rising_newer : (front back : List Entry) → RiseAbove 0 (front ++ back) → IsNewerThan back front
rising_newer front back rise a b i j key =
    let more = above (max 0 (greatest front)) back a (rise_split 0 front back rise).1 i in
    let less = up_to_greatest front b j in
    omega (arith, more, less)

logged_both : (d : Directory) (before : List LogContent) (last : LogContent) → d.logs ≡ before ++ last ∷ [] → logged d.logs ≡ logged before ++ batch_entries last.batches
logged_both d before last e = ap logged e ∙ logged-append before (last ∷ []) ∙ ap (λ (es : List Entry). logged before ++ es) (append-nil (batch_entries last.batches))

pub memory : MemoryLaw
memory order files d before last lists h e searched same =
    let mine = batch_entries last.batches in
    let sealed = logged before in
    let all = logged_both d before last e in
    let rise = subst (λ (es : List Entry). RiseAbove 0 es) all h.sequences in
    let in_logs : (a : Entry) → Among (sealed ++ mine) a → Among (logged d.logs) a = λ a i. subst (λ (es : List Entry). Among es a) (sym all) i in
    let newer : IsNewerThan mine sealed = rising_newer sealed mine rise in (
      (
        λ a b i j key. elim (sources.among_split sealed (joined lists) b j) [
          | inl k ↦ newer a b i k key
          | inr k ↦ h.newer a b (in_logs a (sources.among_back sealed mine a i)) ((same b).0 k) key
        ],
        (λ a b i j key. h.newer a b (in_logs a (sources.among_front sealed mine a i)) ((same b).0 j) key, searched),
      ),
      λ a. (
        λ i. elim (sources.among_split mine (sealed ++ joined lists) a i) [
          | inl j ↦ sources.among_back (tabled d.tables) (logged d.logs) a (in_logs a (sources.among_back sealed mine a j))
          | inr j ↦ elim (sources.among_split sealed (joined lists) a j) [
            | inl k ↦ sources.among_back (tabled d.tables) (logged d.logs) a (in_logs a (sources.among_front sealed mine a k))
            | inr k ↦ sources.among_front (tabled d.tables) (logged d.logs) a ((same a).0 k)
          ]
        ],
        λ i. elim (sources.among_split (tabled d.tables) (logged d.logs) a i) [
          | inl j ↦ sources.among_back mine (sealed ++ joined lists) a (sources.among_back sealed (joined lists) a ((same a).1 j))
          | inr j ↦ elim (sources.among_split sealed mine a (subst (λ (es : List Entry). Among es a) all j)) [
            | inl k ↦ sources.among_back mine (sealed ++ joined lists) a (sources.among_front sealed (joined lists) a k)
            | inr k ↦ sources.among_front mine (sealed ++ joined lists) a k
          ]
        ],
      ),
    )
