-- What calls found, from what they left.
use Rattle.std.proofs.Common.{◌≡◌, ℕ, Bool, true, false, cond, List, [], ◌∷◌, ◌++◌, Option, Some, None, String, string_bytes, refl, sym, ap, ◌∙◌, reverse, take, drop, length, subst}
use mathlib.Core.Bool.{true≢false}
use Rattle.std.proofs.Common.{inl, inr, Result, Ok, Err, append-nil, zero, suc, IsTrue}
use Rattle.std.proofs.Math.Seq.{take-append_seam, drop-append_seam}
use Rattle.std.proofs.lemmas.List.{reverse-append}
use Rattle.std.specs.Cmp.{tied_itself}
use Rattle.std.specs.Ordering.{is_eq}
use Rattle.std.specs.Option.{option_map, option_and_then}
use Rattle.std.specs.declared.alloc.Global.{Global}
use Rattle.std.specs.Cmp.Lexicographic.{slice_cmp, nat_list_cmp_total}
use Rattle.std.specs.Ordering.{nat_cmp, eq_by_cmp}
use Rattle.std.specs.FinMap.{get, insert, remove, get-insert, get-remove}
use Rattle.store.specs.Files.{Files, Synced, Facts, Disk, disk_of, Call, Change, Addition, Does, Appends, lock_name, with_synced, renamed}
use Rattle.store.specs.MemFile.{front_of, synced_bytes}
use Rattle.store.specs.Calls.{Notes, NotesAppend, NotesSync, Adds}
use Rattle.store.specs.declared.error.StoreError.{StoreError}
use Rattle.store.specs.declared.error.StoreError.TheVariants.{Memory}
use Rattle.store.specs.declared.mem_file.MemFile.{MemFile}
use Rattle.store.specs.declared.past.Past.{Past}
use Rattle.store.specs.declared.past.Past.TheVariants.{Made, Grown, Kept, Moved, Taken, Locked}
use Rattle.store.specs.Past.{Holds, bytes_of, synced_in, with_file, undone, rest_of, change_of, calls_of, calls_before}
use Rattle.store.proofs.MemFiles.{same_files, same_name}

-- ---- files

pub get-with_file : (files : Files) (name : List ℕ) (file : Option (List ℕ)) (q : List ℕ) → get (with_file files name file) q ≡ cond (eq_by_cmp (slice_cmp nat_cmp) q name) file (get files q)
get-with_file files name None q = get-remove nat_list_cmp_total files name q
get-with_file files name (Some bytes) q = get-insert nat_list_cmp_total files name bytes q

-- which of two ways a look-up goes
either_way : {X : Type 0} (b : Bool) (x y z : X) → (b ≡ true → x ≡ z) → (b ≡ false → y ≡ z) → cond b x y ≡ z
either_way true x y z yes_way no_way = yes_way refl
either_way false x y z yes_way no_way = no_way refl

cond_at : {X : Type 0} (b : Bool) (x y : X) → b ≡ false → cond b x y ≡ y
cond_at true x y is = absurd (true≢false is)
cond_at false x y is = refl

cond_same : {X : Type 0} (b : Bool) (x y : X) → b ≡ true → cond b x y ≡ x
cond_same true x y is = refl
cond_same false x y is = absurd (true≢false (sym is))

-- but for one name the files are as they were found: with that put back they are the same
pub restored : (found now : Files) (name : List ℕ) (file : Option (List ℕ)) → ((q : List ℕ) → eq_by_cmp (slice_cmp nat_cmp) q name ≡ false → get now q ≡ get found q)
    → get found name ≡ file → with_file now name file ≡ found
restored found now name file others held = same_files _ _ (λ q. get-with_file now name file q
    ∙ either_way (eq_by_cmp (slice_cmp nat_cmp) q name) file (get now q) (get found q)
    (λ same. sym held ∙ ap (get found) (sym (same_name q name same)))
    (λ other. others q other))

pub other_insert : (files : Files) (name bytes q : List ℕ) → eq_by_cmp (slice_cmp nat_cmp) q name ≡ false → get (insert files name bytes) q ≡ get files q
other_insert files name bytes q other = get-insert nat_list_cmp_total files name bytes q ∙ cond_at _ _ _ other

pub other_remove : (files : Files) (name q : List ℕ) → eq_by_cmp (slice_cmp nat_cmp) q name ≡ false → get (remove files name) q ≡ get files q
other_remove files name q other = get-remove nat_list_cmp_total files name q ∙ cond_at _ _ _ other

pub restored_synced : (found now : Synced) (name : List ℕ) (content : Option (List ℕ)) → ((q : List ℕ) → eq_by_cmp (slice_cmp nat_cmp) q name ≡ false → now q ≡ found q)
    → found name ≡ content → with_synced now name content ≡ found
restored_synced found now name content others held = λ i q. at q i
  where
    at : (q : List ℕ) → with_synced now name content q ≡ found q
    at q = either_way (eq_by_cmp (slice_cmp nat_cmp) q name) content (now q) (found q)
        (λ same. sym held ∙ ap found (sym (same_name q name same)))
        (λ other. others q other)

pub other_synced : (s : Synced) (name q : List ℕ) (content : Option (List ℕ)) → eq_by_cmp (slice_cmp nat_cmp) q name ≡ false → with_synced s name content q ≡ s q
other_synced s name q content other = cond_at _ _ _ other

-- ---- calls

-- one call more
pub calls_more : (older newer : List Past) (past : Past) (found now : Disk) (change : Change) → newer ≡ older ++ past ∷ [] → undone past now ≡ found → change_of past now ≡ change
    → calls_of newer now ≡ calls_of older found ++ (record { found = found; change = change }) ∷ []
calls_more older newer past found now change grew back is =
    ap (λ (l : List Past). calls_before (reverse l) now) grew
    ∙ ap (λ (l : List Past). calls_before l now) (reverse-append older (past ∷ []))
    ∙ (λ i. calls_before (reverse older) (back i) ++ (record { found = back i; change = is i }) ∷ [])

-- the same calls
pub calls_same : (older newer : List Past) (found now : Disk) → newer ≡ older → now ≡ found → calls_of newer now ≡ calls_of older found
calls_same older newer found now same is = λ i. calls_of (same i) (is i)

-- ---- each kind of call

itself : (name : List ℕ) → eq_by_cmp (slice_cmp nat_cmp) name name ≡ true
itself name = ap is_eq (tied_itself nat_list_cmp_total name)

same_insert : (files : Files) (name bytes : List ℕ) → get (insert files name bytes) name ≡ Some bytes
same_insert files name bytes = get-insert nat_list_cmp_total files name bytes name ∙ cond_same _ _ _ (itself name)

same_synced : (s : Synced) (name : List ℕ) (content : Option (List ℕ)) → with_synced s name content name ≡ content
same_synced s name content = cond_same _ _ _ (itself name)

pub made_back : (k : String Global) (held : Option MemFile) (found now : Disk) (name : List ℕ) → string_bytes k ≡ name → now.files ≡ insert found.files name [] → now.synced ≡ with_synced found.synced name None
    → Holds found name held → undone (Made k held) now ≡ found
made_back k held found now name is made kept holds =
    let files : with_file now.files (string_bytes k) (bytes_of held) ≡ found.files =
    ap (λ n. with_file now.files n (bytes_of held)) is
    ∙ restored found.files now.files name (bytes_of held) (λ q other. ap (λ (f : Files). get f q) made ∙ other_insert found.files name [] q other) holds.0 in
    let synced : with_synced now.synced (string_bytes k) (synced_in held) ≡ found.synced =
    ap (λ n. with_synced now.synced n (synced_in held)) is
    ∙ restored_synced found.synced now.synced name (synced_in held) (λ q other. ap (λ (s : Synced). s q) kept ∙ other_synced found.synced name q None other) holds.1 in
    λ i. record { files = files i; synced = synced i }

pub taken_back : (k : String Global) (file : MemFile) (found now : Disk) (name : List ℕ) → string_bytes k ≡ name → now.files ≡ remove found.files name → now.synced ≡ with_synced found.synced name None
    → Holds found name (Some file) → undone (Taken k file) now ≡ found
taken_back k file found now name is gone kept holds =
    let files : with_file now.files (string_bytes k) (Some file.bytes) ≡ found.files =
    ap (λ n. with_file now.files n (Some file.bytes)) is
    ∙ restored found.files now.files name (Some file.bytes) (λ q other. ap (λ (f : Files). get f q) gone ∙ other_remove found.files name q other) holds.0 in
    let synced : with_synced now.synced (string_bytes k) (synced_bytes file) ≡ found.synced =
    ap (λ n. with_synced now.synced n (synced_bytes file)) is
    ∙ restored_synced found.synced now.synced name (synced_bytes file) (λ q other. ap (λ (s : Synced). s q) kept ∙ other_synced found.synced name q None other) holds.1 in
    λ i. record { files = files i; synced = synced i }

pub locked_back : (found now : Disk) → get found.files lock_name ≡ None → now.files ≡ insert found.files lock_name [] → now.synced ≡ found.synced → undone Locked now ≡ found
locked_back found now none made kept =
    let files : with_file now.files lock_name None ≡ found.files =
    restored found.files now.files lock_name None (λ q other. ap (λ (f : Files). get f q) made ∙ other_insert found.files lock_name [] q other) none in
    λ i. record { files = files i; synced = kept i }

-- what an append left of the file
grown_at : (found now : Files) (name before bytes : List ℕ) → now ≡ insert found name (before ++ bytes) → get now name ≡ Some (before ++ bytes)
grown_at found now name before bytes made = ap (λ (f : Files). get f name) made ∙ same_insert found name (before ++ bytes)

pub grown_back : (k : String Global) (count : ℕ) (found now : Disk) (name before bytes : List ℕ) → string_bytes k ≡ name → count ≡ length before → get found.files name ≡ Some before
    → now.files ≡ insert found.files name (before ++ bytes) → now.synced ≡ found.synced → undone (Grown k count) now ≡ found
grown_back k count found now name before bytes is many at made kept =
    let cut : option_map (take count) (get now.files name) ≡ Some before =
    ap (option_map (take count)) (grown_at found.files now.files name before bytes made)
    ∙ ap Some (ap (λ n. take n (before ++ bytes)) many ∙ take-append_seam before bytes) in
    let files : with_file now.files (string_bytes k) (option_map (take count) (get now.files (string_bytes k))) ≡ found.files =
    ap (λ n. with_file now.files n (option_map (take count) (get now.files n))) is
    ∙ ap (with_file now.files name) cut
    ∙ restored found.files now.files name (Some before) (λ q other. ap (λ (f : Files). get f q) made ∙ other_insert found.files name (before ++ bytes) q other) at in
    λ i. record { files = files i; synced = kept i }

pub grown_change : (k : String Global) (count : ℕ) (found now : Disk) (name before bytes : List ℕ) → string_bytes k ≡ name → count ≡ length before
    → now.files ≡ insert found.files name (before ++ bytes) → change_of (Grown k count) now ≡ Addition name bytes
grown_change k count found now name before bytes is many made =
    ap (λ n. Addition n (rest_of count (get now.files n))) is
    ∙ ap (λ (file : Option (List ℕ)). Addition name (rest_of count file)) (grown_at found.files now.files name before bytes made)
    ∙ ap (Addition name) (ap (λ n. drop n (before ++ bytes)) many ∙ drop-append_seam before bytes)

pub kept_back : (k : String Global) (count : Option ℕ) (found now : Disk) (name bytes : List ℕ) (content : Option (List ℕ)) → string_bytes k ≡ name → get found.files name ≡ Some bytes
    → now.files ≡ found.files → now.synced ≡ with_synced found.synced name content → found.synced name ≡ front_of bytes count → undone (Kept k count) now ≡ found
kept_back k count found now name bytes content is at same kept was =
    let front : option_and_then (λ bytes. front_of bytes count) (get now.files name) ≡ front_of bytes count =
    ap (option_and_then (λ bytes. front_of bytes count)) (ap (λ (f : Files). get f name) same ∙ at) in
    let synced : with_synced now.synced (string_bytes k) (option_and_then (λ bytes. front_of bytes count) (get now.files (string_bytes k))) ≡ found.synced =
    ap (λ n. with_synced now.synced n (option_and_then (λ bytes. front_of bytes count) (get now.files n))) is
    ∙ ap (with_synced now.synced name) front
    ∙ restored_synced found.synced now.synced name (front_of bytes count) (λ q other. ap (λ (s : Synced). s q) kept ∙ other_synced found.synced name q content other) was in
    λ i. record { files = same i; synced = synced i }

pub moved_back : (k l : String Global) (held : Option MemFile) (found now : Disk) (from to bytes : List ℕ) → string_bytes k ≡ from → string_bytes l ≡ to → get found.files from ≡ Some bytes
    → now.files ≡ insert (remove found.files from) to bytes → now.synced ≡ renamed found.synced from to → Holds found to held → undone (Moved k l held) now ≡ found
moved_back k l held found now from to bytes is_from is_to at moved kept holds =
    let there : get now.files to ≡ Some bytes = ap (λ (f : Files). get f to) moved ∙ same_insert (remove found.files from) to bytes in
    let files : with_file (with_file now.files (string_bytes l) (bytes_of held)) (string_bytes k) (get now.files (string_bytes l)) ≡ found.files =
    (λ i. with_file (with_file now.files (is_to i) (bytes_of held)) (is_from i) (get now.files (is_to i)))
    ∙ ap (with_file (with_file now.files to (bytes_of held)) from) there
    ∙ restored found.files (with_file now.files to (bytes_of held)) from (Some bytes) (λ q other. get-with_file now.files to (bytes_of held) q
    ∙ either_way (eq_by_cmp (slice_cmp nat_cmp) q to) (bytes_of held) (get now.files q) (get found.files q)
    (λ same. sym holds.0 ∙ ap (get found.files) (sym (same_name q to same)))
    (λ far. ap (λ (f : Files). get f q) moved ∙ other_insert (remove found.files from) to bytes q far ∙ other_remove found.files from q other)) at in
    let carried : now.synced to ≡ found.synced from = ap (λ (s : Synced). s to) kept ∙ same_synced (with_synced found.synced from None) to (found.synced from) in
    let synced : with_synced (with_synced now.synced (string_bytes l) (synced_in held)) (string_bytes k) (now.synced (string_bytes l)) ≡ found.synced =
    (λ i. with_synced (with_synced now.synced (is_to i) (synced_in held)) (is_from i) (now.synced (is_to i)))
    ∙ ap (with_synced (with_synced now.synced to (synced_in held)) from) carried
    ∙ restored_synced found.synced (with_synced now.synced to (synced_in held)) from (found.synced from) (λ q other.
    either_way (eq_by_cmp (slice_cmp nat_cmp) q to) (synced_in held) (now.synced q) (found.synced q)
    (λ same. sym holds.1 ∙ ap found.synced (sym (same_name q to same)))
    (λ far. ap (λ (s : Synced). s q) kept ∙ other_synced (with_synced found.synced from None) to q (found.synced from) far ∙ other_synced found.synced from q None other)) refl in
    λ i. record { files = files i; synced = synced i }

-- ---- what is noted

pub notes_change : {T : Type 0} (old new : Facts) (x : T) (older newer : List Past) (past : Past) (change : Change) → old.calls ≡ calls_of older (disk_of old) → new.calls ≡ calls_of newer (disk_of new)
    → newer ≡ older ++ past ∷ [] → undone past (disk_of new) ≡ disk_of old → change_of past (disk_of new) ≡ change → Does change old.files new.files → Notes old new (Ok x) change
notes_change old new x older newer past change before now grew back is does = record {
  noted = λ _. inr (now ∙ calls_more older newer past (disk_of old) (disk_of new) change grew back is ∙ ap (λ (l : List Call). l ++ (record { found = disk_of old; change = change }) ∷ []) (sym before), does);
  memory = λ _ out. absurd (cc);
}

pub notes_append : {T : Type 0} (old new : Facts) (x : T) (older newer : List Past) (past : Past) (name bytes : List ℕ) → old.calls ≡ calls_of older (disk_of old) → new.calls ≡ calls_of newer (disk_of new)
    → newer ≡ older ++ past ∷ [] → undone past (disk_of new) ≡ disk_of old → change_of past (disk_of new) ≡ Addition name bytes → Appends old.files new.files name bytes → NotesAppend old new (Ok x) name bytes
notes_append old new x older newer past name bytes before now grew back is does =
    let all : bytes ≡ take (length bytes) bytes = sym (take-append_seam bytes []) ∙ ap (take (length bytes)) (append-nil bytes) in
    record {
      noted = λ _. inr (
        length bytes,
        (
          now ∙ calls_more older newer past (disk_of old) (disk_of new) (Addition name (take (length bytes) bytes)) grew back (is ∙ ap (Addition name) all) ∙ ap (λ (l : List Call). l ++ (record { found = disk_of old; change = Addition name (take (length bytes) bytes) }) ∷ []) (sym before),
          subst (λ (b : List ℕ). Appends old.files new.files name b) all does,
        ),
      );
      memory = λ _ out. absurd (cc);
    }

pub notes_sync : {T : Type 0} (old new : Facts) (x : T) (older newer : List Past) (past : Past) (change : Change) → old.calls ≡ calls_of older (disk_of old) → new.calls ≡ calls_of newer (disk_of new)
    → newer ≡ older ++ past ∷ [] → undone past (disk_of new) ≡ disk_of old → change_of past (disk_of new) ≡ change → Does change old.files new.files → NotesSync old new (Ok x) change
notes_sync old new x older newer past change before now grew back is does = record {
  ok = λ _. (now ∙ calls_more older newer past (disk_of old) (disk_of new) change grew back is ∙ ap (λ (l : List Call). l ++ (record { found = disk_of old; change = change }) ∷ []) (sym before), does);
  err = λ _. tt;
}

-- nothing was done
pub notes_none : {T : Type 0} (old new : Facts) (r : Result T StoreError) (older newer : List Past) (change : Change) → old.calls ≡ calls_of older (disk_of old) → new.calls ≡ calls_of newer (disk_of new)
    → newer ≡ older → disk_of new ≡ disk_of old → Notes old new r change
notes_none old new r older newer change before now same is =
    let calls = now ∙ calls_same older newer (disk_of old) (disk_of new) same is ∙ sym before in
    record { noted = λ _. inl (calls, is); memory = λ _ out. calls }

pub appends_none : {T : Type 0} (old new : Facts) (r : Result T StoreError) (older newer : List Past) (name bytes : List ℕ) → old.calls ≡ calls_of older (disk_of old) → new.calls ≡ calls_of newer (disk_of new)
    → newer ≡ older → disk_of new ≡ disk_of old → NotesAppend old new r name bytes
appends_none old new r older newer name bytes before now same is =
    let calls = now ∙ calls_same older newer (disk_of old) (disk_of new) same is ∙ sym before in
    record { noted = λ _. inl (calls, is); memory = λ _ out. calls }

take_less : (n count : ℕ) (bytes : List ℕ) → (m : ℕ) × (take n (take count bytes) ≡ take m bytes)
take_less zero count bytes = (zero, refl)
take_less (suc n) zero bytes = (zero, refl)
take_less (suc n) (suc count) [] = (zero, refl)
take_less (suc n) (suc count) (b ∷ bytes) = let rest = take_less n count bytes in (suc rest.0, ap (λ (l : List ℕ). b ∷ l) rest.1)

-- a shorter append is one of a beginning
pub notes_part : {T U : Type 0} (old new : Facts) (r : Result T StoreError) (s : Result U StoreError) (name bytes : List ℕ) (count : ℕ) → NotesAppend old new r name (take count bytes)
    → (IsTrue new.faithful → s ≡ Err Memory → new.calls ≡ old.calls) → NotesAppend old new s name bytes
notes_part old new r s name bytes count h memory = record {
  noted = λ f. elim (h.noted f) [
    | inl idle ↦ inl idle
    | inr some ↦ (let less = take_less some.0 count bytes in inr (less.0, subst (λ (b : List ℕ). Adds old new (Addition name b)) less.1 some.1))
  ];
  memory = memory;
}
