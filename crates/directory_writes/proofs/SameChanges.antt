-- The same change, done to directories that differ in their tables alone.
use Rattle.std.proofs.Common.{◌≡◌, ◌⊎◌, ◌<◌, ℕ, Bool, true, false, cond, List, [], ◌∷◌, ◌++◌, map, Option, Some, None, is_some, inl, inr, refl, sym, ap, subst, ◌∙◌, arith}
use Rattle.std.specs.Cmp.{tied_itself}
use Rattle.std.specs.Cmp.Lexicographic.{slice_cmp, nat_list_cmp_total}
use Rattle.std.specs.Ordering.{is_eq, nat_cmp, eq_by_cmp}
use Rattle.std.specs.FinMap.{get, insert, entries, get-entries, find, from_entries, get-from_entries, same_map, slice_cmp-IsAntisymmetric, nat_cmp-IsAntisymmetric}
use Rattle.store.specs.Files.{Files, Appends}
use Rattle.ikey.specs.Orders.{Order}
use Rattle.edits.specs.Names.{name_of, IsFileName, IsNumbered}
use Rattle.edits.specs.declared.field.Field.{Field}
use Rattle.edits.specs.declared.layout.Layout.{Layout}
use Rattle.edits.specs.declared.names.FileName.{FileName}
use Rattle.edits.specs.declared.names.FileName.TheVariants.{Current, Log, Manifest, Table, OldTable}
use Rattle.edits.proofs.FileNames.{one_file}
use Rattle.recover.specs.Directory.{HasManifest}
use Rattle.recover.specs.internal.Changes.{ManifestEndsAt}
use Rattle.recover.specs.Numbers.{IsFree, number_of}
use Rattle.recover.proofs.Keeping.{keep_manifest}
use Rattle.recover.proofs.NamedFiles.{get_other, get_same, same_name}
use Rattle.directory_writes.specs.Differing.{DiffersInTables, IsNameOfTable, IsSameChange, OfEach}
use Rattle.directory_writes.specs.internal.Each.{AppendsEachLaw, EachFileLaw, FreeEachLaw, FreeFileLaw, OneChangeLaw, SameChangeLaw, SameFileLaw}
use Rattle.directory_writes.proofs.TableFiles.{one_name}

-- ---- two files

-- a file is the same in both or not
same_or_other : (a b : Option (List ℕ)) → (a ≡ b) ⊎ (a ≡ b → ⊥)
same_or_other None None = inl refl
same_or_other None (Some y) = inr (λ e. cc)
same_or_other (Some x) None = inr (λ e. cc)
same_or_other (Some x) (Some y) = elim (one_name x y) [
  | inl same ↦ inl (ap (λ (t : List ℕ). Some t) same)
  | inr apart ↦ inr (λ e. apart (let t : Some x ≡ Some y = e in cc))
]

-- ---- the same change

-- what a file is then that was and is so in the one directory, and was so in the other
abbrev picked : Option (List ℕ) → Option (List ℕ) → List ℕ → List ℕ
picked None kept now = now
picked (Some before) None now = now
picked (Some before) (Some kept) now = cond (eq_by_cmp (slice_cmp nat_cmp) before now) kept now

abbrev mapped : (List ℕ → List ℕ) → Option (List ℕ) → Option (List ℕ)
mapped f None = None
mapped f (Some x) = Some (f x)

picked_same : (a w : Option (List ℕ)) → is_some w ≡ is_some a → mapped (picked a w) a ≡ w
picked_same None None e = refl
picked_same None (Some w) e = absurd (let t : true ≡ false = e in cc)
picked_same (Some a) None e = absurd (let t : false ≡ true = e in cc)
picked_same (Some a) (Some w) e = ap (λ (b : Bool). Some (cond b w a)) (ap is_eq (tied_itself nat_list_cmp_total a))

picked_text : (b : Bool) (a w x : List ℕ) → eq_by_cmp (slice_cmp nat_cmp) a x ≡ b → (Some x ≡ Some a → ⊥) → Some (cond b w x) ≡ Some x
picked_text true a w x is apart = absurd (apart (ap (λ (t : List ℕ). Some t) (sym (same_name a x is))))
picked_text false a w x is apart = refl

picked_other : (n a w : Option (List ℕ)) → (n ≡ a → ⊥) → mapped (picked a w) n ≡ n
picked_other None a w apart = refl
picked_other (Some x) None w apart = refl
picked_other (Some x) (Some a) None apart = refl
picked_other (Some x) (Some a) (Some w) apart = picked_text (eq_by_cmp (slice_cmp nat_cmp) a x) a w x refl apart

module _ (old whole : Files) where
  abbrev pick : List ℕ → List ℕ → List ℕ
  pick name = picked (get old name) (get whole name)

  abbrev chosen : List ℕ × List ℕ → List ℕ × List ℕ
  chosen e = (e.0, pick e.0 e.1)

  found_at : (q : List ℕ) (e : List ℕ × List ℕ) (es : List (List ℕ × List ℕ)) (b : Bool) → eq_by_cmp (slice_cmp nat_cmp) q e.0 ≡ b
      → find (slice_cmp nat_cmp) q (map chosen es) ≡ mapped (pick q) (find (slice_cmp nat_cmp) q es)
      → cond b (Some (pick e.0 e.1)) (find (slice_cmp nat_cmp) q (map chosen es)) ≡ mapped (pick q) (cond b (Some e.1) (find (slice_cmp nat_cmp) q es))
  found_at q e es true is rest = ap (λ (n : List ℕ). Some (pick n e.1)) (sym (same_name q e.0 is))
  found_at q e es false is rest = rest

  found : (q : List ℕ) (es : List (List ℕ × List ℕ)) → find (slice_cmp nat_cmp) q (map chosen es) ≡ mapped (pick q) (find (slice_cmp nat_cmp) q es)
  found q [] = refl
  found q (e ∷ es) = found_at q e es (eq_by_cmp (slice_cmp nat_cmp) q e.0) refl (found q es)

  carried : Files → Files
  carried new = from_entries {R = slice_cmp nat_cmp} (map chosen (entries new))

  get_carried : (new : Files) (q : List ℕ) → get (carried new) q ≡ mapped (pick q) (get new q)
  unfolding carried
  get_carried new q =
      get-from_entries nat_list_cmp_total (map chosen (entries new)) q ∙ found q (entries new) ∙ ap (mapped (pick q)) (sym (get-entries new q))

  carried_is : (new : Files) → DiffersInTables old whole → IsSameChange old new whole (carried new)
  carried_is new d = record {
    stays = λ q same. get_carried new q ∙ ap (mapped (pick q)) same ∙ picked_same (get old q) (get whole q) (d.names q);
    changes = λ q apart. get_carried new q ∙ picked_other (get new q) (get old q) (get whole q) apart;
  }

-- ---- what it leaves

module _ (old new whole after : Files) (d : DiffersInTables old whole) (c : IsSameChange old new whole after) where
  -- where both had the same file
  pub also : (q : List ℕ) → get whole q ≡ get old q → get after q ≡ get new q
  also q agree = elim (same_or_other (get new q) (get old q)) [
    | inl same ↦ c.stays q same ∙ agree ∙ sym same
    | inr apart ↦ c.changes q apart
  ]

  pub differs_after : DiffersInTables new after
  differs_after = record {
    names = λ q. elim (same_or_other (get new q) (get old q)) [
      | inl same ↦ ap is_some (c.stays q same) ∙ d.names q ∙ ap is_some (sym same)
      | inr apart ↦ ap is_some (c.changes q apart)
    ];
    others = λ q no. also q (d.others q no);
  }

pub same_change : SameChangeLaw
same_change old new whole d = let c = carried_is old whole new d in (carried old whole new, c, differs_after old new whole (carried old whole new) d c)

pub same_file : SameFileLaw
same_file old new whole after d c = (differs_after old new whole after d c, also old new whole after d c)

-- what stays from a moment between on stays there too
pub stays_since : (old mid new whole then after : Files) → IsSameChange old mid whole then → IsSameChange old new whole after → (q : List ℕ) → get new q ≡ get mid q → get after q ≡ get then q
stays_since old mid new whole then after first all q e = elim (same_or_other (get new q) (get old q)) [
  | inl same ↦ all.stays q same ∙ sym (first.stays q (sym e ∙ same))
  | inr apart ↦ all.changes q apart ∙ e ∙ sym (first.changes q (λ m. apart (e ∙ m)))
]

pub differs_back : (files whole : Files) → DiffersInTables files whole → DiffersInTables whole files
differs_back files whole d = record { names = λ q. sym (d.names q); others = λ q no. sym (d.others q no) }

-- ---- what is no table's

pub other_file : (file : FileName) → IsFileName file → ((n : ℕ) → file ≡ Table n → ⊥) → ((n : ℕ) → file ≡ OldTable n → ⊥) → IsNameOfTable (name_of file) → ⊥
other_file file is newer older (n, num, inl e) = newer n (one_file file (Table n) is num e)
other_file file is newer older (n, num, inr e) = older n (one_file file (OldTable n) is num e)

pub current_other : IsNameOfTable (name_of Current) → ⊥
current_other = other_file Current tt (λ n e. cc) (λ n e. cc)

pub manifest_other : (m : ℕ) → IsNumbered m → IsNameOfTable (name_of (Manifest m)) → ⊥
manifest_other m is = other_file (Manifest m) is (λ n e. cc) (λ n e. cc)

pub log_other : (m : ℕ) → IsNumbered m → IsNameOfTable (name_of (Log m)) → ⊥
log_other m is = other_file (Log m) is (λ n e. cc) (λ n e. cc)

module _ (order : Order) (files whole : Files) (d : DiffersInTables files whole) where
  pub manifest_too : (m : ℕ) (edits : List (List Field)) (layout : Layout) → HasManifest order files m edits layout → HasManifest order whole m edits layout
  manifest_too m edits layout h = keep_manifest order files whole m edits layout (d.others (name_of Current) current_other) (d.others (name_of (Manifest m)) (manifest_other m h.numbered)) h

  pub ends_too : (m end : ℕ) (edits : List (List Field)) (layout : Layout) → ManifestEndsAt order files m end edits layout → ManifestEndsAt order whole m end edits layout
  ends_too m end edits layout e =
      let h = e.manifest in
      record {
        manifest = record {
          numbered = h.numbered;
          current = d.others (name_of Current) current_other ∙ h.current;
          bytes = h.bytes;
          there = d.others (name_of (Manifest m)) (manifest_other m h.numbered) ∙ h.there;
          spelled = h.spelled;
        };
        clean = e.clean;
        length = e.length;
      }

pub free_too : (order : Order) (files whole : Files) → DiffersInTables files whole → (n : ℕ) → IsFree order files n → IsFree order whole n
free_too order files whole d n free = record {
  some = free.some;
  listed = λ file is there. free.listed file is (sym (d.names (name_of file)) ∙ there);
  recorded = λ m edits layout has. free.recorded m edits layout (manifest_too order whole files (differs_back files whole d) m edits layout has);
}

-- ---- the files as a whole

pub same_files : (a b : Files) → ((q : List ℕ) → get a q ≡ get b q) → a ≡ b
same_files = same_map nat_list_cmp_total (slice_cmp-IsAntisymmetric nat_cmp-IsAntisymmetric)

-- where nothing changed nothing does
pub unchanged_too : (old new whole after : Files) → IsSameChange old new whole after → new ≡ old → after ≡ whole
unchanged_too old new whole after c same = same_files after whole (λ q. c.stays q (ap (λ (fs : Files). get fs q) same))

-- a file that is written is written there
pub written_too : (old new whole after : Files) (name bytes : List ℕ) → DiffersInTables old whole → IsSameChange old new whole after → get whole name ≡ get old name
    → new ≡ insert old name bytes → after ≡ insert whole name bytes
written_too old new whole after name bytes d c agree is = same_files after (insert whole name bytes) (λ q. elim (one_name q name) [
  | inl here ↦
      let P : List ℕ → Type 0 = λ n. get after n ≡ get (insert whole name bytes) n in
      subst P (sym here) (also old new whole after d c name agree ∙ ap (λ (fs : Files). get fs name) is ∙ get_same old name bytes ∙ sym (get_same whole name bytes))
  | inr apart ↦ c.stays q (ap (λ (fs : Files). get fs q) is ∙ get_other old name bytes q apart) ∙ sym (get_other whole name bytes q apart)
])

appends_one : (old new : Files) (name bytes : List ℕ) → Appends old new name bytes → OfEach (λ whole after. get whole name ≡ get old name → Appends whole after name bytes) old new
appends_one old new name bytes (before, there, is) whole after d c agree = (before, agree ∙ there, written_too old new whole after name (before ++ bytes) d c agree is)

pub appends_each : AppendsEachLaw
appends_each old new name bytes = (
  appends_one old new name bytes,
  λ part whole after d c agree. elim part [
    | inl same ↦ inl (unchanged_too old new whole after c same)
    | inr some ↦ inr (some.0, appends_one old new name _ some.1 whole after d c agree)
  ],
)

-- ---- a table that isn't there

missing : (o : Option (List ℕ)) → (is_some o ≡ true → ⊥) → o ≡ None
missing None h = refl
missing (Some x) h = absurd (h refl)

-- no file has a number that is free, so none has it in both
pub free_file : FreeFileLaw
free_file order old whole n file d free is le =
    let gone : is_some (get whole (name_of file)) ≡ true → ⊥ = λ there. (let below : number_of file < n = free.listed file is there in omega (arith, below, le)) in
    missing (get whole (name_of file)) gone ∙ sym (missing (get old (name_of file)) (λ there. gone (d.names (name_of file) ∙ there)))

pub free_agree : (order : Order) (old whole : Files) (n : ℕ) → DiffersInTables old whole → IsFree order whole n → (file : FileName) → IsFileName file → number_of file ≡ n → get whole (name_of file) ≡ get old (name_of file)
free_agree order old whole n d free file is number = free_file order old whole n file d free is (omega (arith, number))

pub free_each : FreeEachLaw
free_each order files whole next d = (free_too order files whole d next, free_too order whole files (differs_back files whole d) next)

-- ---- one change

one_file_left : (old new whole after other : Files) → IsSameChange old new whole after → IsSameChange old new whole other → (q : List ℕ) → get after q ≡ get other q
one_file_left old new whole after other c o q = elim (same_or_other (get new q) (get old q)) [
  | inl same ↦ c.stays q same ∙ sym (o.stays q same)
  | inr apart ↦ c.changes q apart ∙ sym (o.changes q apart)
]

pub one_change : OneChangeLaw
one_change old new = (
  record { names = λ q. refl; others = λ q no. refl },
  record { stays = λ q same. same; changes = λ q apart. refl },
  λ whole after other c o. same_files after other (one_file_left old new whole after other c o),
)

-- ---- file by file

pub each_file : EachFileLaw
each_file old new whole after c q = elim (same_or_other (get new q) (get old q)) [
  | inl same ↦ inl (same, c.stays q same)
  | inr apart ↦ inr (c.changes q apart)
]
