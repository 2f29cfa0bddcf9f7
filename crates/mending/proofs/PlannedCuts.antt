-- What is planned, file by file.
use Rattle.std.proofs.Common.{true, ◌≡◌, ◌⊎◌, ◌<◌, ◌+◌, ℕ, zero, suc, List, [], ◌∷◌, ◌++◌, length, take, get_or, Option, Some, None, is_some, inl, inr, refl, sym, ap, subst, ◌∙◌, arith}
use Rattle.std.specs.Prelude.{Contains}
use Rattle.std.specs.List.{AllByRecursion}
use Rattle.std.specs.List.Sorted.{IsPermutation}
use Rattle.std.specs.FinMap.{get, contains_key, keys, contains_key-keys}
use Rattle.std.proofs.lemmas.List.Elements.{Contains-append_left, Contains-push, Contains-push_cases}
use Rattle.std.proofs.lemmas.List.Sorted.{Contains-permutation, IsPermutation-sym}
use Rattle.std.proofs.lemmas.Map.Views.{Contains-from_any}
use Rattle.std.proofs.lemmas.List.{take_more}
use Rattle.store.specs.Files.{Files, Facts, Lists}
use Rattle.edits.specs.Names.{name_of, IsNumbered}
use Rattle.edits.specs.declared.layout.Layout.{Layout}
use Rattle.edits.specs.declared.names.FileName.{FileName}
use Rattle.edits.specs.declared.names.FileName.TheVariants.{Current, Lock, Log, Table, OldTable, Manifest, Temporary}
use Rattle.edits.proofs.FileNames.{one_file}
use Rattle.mending.specs.Plans.{HasNoFront, IsPlain, IsSound, PlansFile, PlansLogs, IsLive, IsMine, HasCutOf, ArePlanned, AreLogsOf}
use Rattle.mending.specs.declared.ends.Ends.{Ends}
use Rattle.mending.specs.declared.finding.Cut.{Cut}
use Rattle.mending.proofs.Writing.{same_name}

-- ---- names of logs

none_in : {X : Type 0} (x : X) → Contains [] x → ⊥
none_in x i = omega (arith, i.1)

pub no_logs : (layout : Layout) → AreLogsOf layout [] []
no_logs layout = (λ n i. absurd (none_in n i), λ n is live i. absurd (none_in (name_of (Log n)) i))

pub same_log_number : (k n : ℕ) → Log k ≡ Log n → k ≡ n
same_log_number k n e = cc

pub logs_same : (layout : Layout) (names : List (List ℕ)) (name : List ℕ) (logs : List ℕ) → ((n : ℕ) → IsNumbered n → IsLive layout n → name ≡ name_of (Log n) → ⊥) → AreLogsOf layout names logs → AreLogsOf layout (names ++ name ∷ []) logs
logs_same layout names name logs other h = (
  h.0,
  λ n is live i. elim (Contains-push_cases names name (name_of (Log n)) i) [
    | inl old ↦ h.1 n is live old
    | inr same ↦ absurd (other n is live same)
  ],
)

pub logs_more : (layout : Layout) (names : List (List ℕ)) (name : List ℕ) (logs : List ℕ) (k : ℕ) → IsNumbered k → IsLive layout k → name ≡ name_of (Log k) → AreLogsOf layout names logs → AreLogsOf layout (names ++ name ∷ []) (logs ++ k ∷ [])
logs_more layout names name logs k is live e h = (
  λ n i. elim (Contains-push_cases logs k n i) [
    | inl old ↦ h.0 n old
    | inr same ↦ subst (λ (m : ℕ). IsNumbered m × IsLive layout m) same (is, live)
  ],
  λ n is_n live_n i. elim (Contains-push_cases names name (name_of (Log n)) i) [
    | inl old ↦ Contains-append_left logs (k ∷ []) n (h.1 n is_n live_n old)
    | inr same ↦ subst (λ (m : ℕ). Contains (logs ++ k ∷ []) m) (number_of_log k n is is_n (sym e ∙ same)) (Contains-push logs k)
  ],
)
  where
    number_of_log : (k n : ℕ) → IsNumbered k → IsNumbered n → name_of (Log k) ≡ name_of (Log n) → k ≡ n
    number_of_log k n is is_n e = let both : Log k ≡ Log n = one_file (Log k) (Log n) is is_n e in cc

pub logs_sorted : (layout : Layout) (names : List (List ℕ)) (logs sorted : List ℕ) → IsPermutation logs sorted → AreLogsOf layout names logs → AreLogsOf layout names sorted
logs_sorted layout names logs sorted p h = (
  λ n i. h.0 n (Contains-permutation sorted logs n (IsPermutation-sym logs sorted p) i),
  λ n is live i. Contains-permutation logs sorted n p (h.1 n is live i),
)

pub name_listed : (files : Files) (names : List (List ℕ)) (name : List ℕ) → Lists files names → contains_key files name ≡ true → Contains names name
name_listed files names name lists e =
    Contains-permutation (keys files) names name lists (Contains-from_any same_name name (keys files) (sym (contains_key-keys files name) ∙ e))

-- ---- cuts, one after the other

abbrev IsGood : Ends → Files → ℕ → Layout → Cut → Type 0
IsGood ends files number layout cut = IsMine number layout cut.file × IsSound ends files cut.file cut

all_push : (ends : Ends) (files : Files) (number : ℕ) (layout : Layout) (cuts : List Cut) (cut : Cut) → AllByRecursion (IsGood ends files number layout) cuts → IsGood ends files number layout cut → AllByRecursion (IsGood ends files number layout) (cuts ++ cut ∷ [])
all_push ends files number layout [] cut all good = (good, tt)
all_push ends files number layout (c ∷ cuts) cut all good = (all.0, all_push ends files number layout cuts cut all.1 good)

has_push : (cuts : List Cut) (cut : Cut) (file : FileName) → HasCutOf cuts file → HasCutOf (cuts ++ cut ∷ []) file
has_push [] cut file h = absurd h
has_push (c ∷ cuts) cut file (inl h) = inl h
has_push (c ∷ cuts) cut file (inr h) = inr (has_push cuts cut file h)

has_last : (cuts : List Cut) (cut : Cut) (file : FileName) → cut.file ≡ file → HasCutOf (cuts ++ cut ∷ []) file
has_last [] cut file e = inl e
has_last (c ∷ cuts) cut file e = inr (has_last cuts cut file e)

sound_file : (ends : Ends) (files : Files) (number : ℕ) (layout : Layout) (file : FileName) (cut : Cut) → IsMine number layout file → IsSound ends files file cut → IsGood ends files number layout cut
sound_file ends files number layout file cut mine sound =
    (subst (λ (f : FileName). IsMine number layout f) (sym sound.0) mine, (refl, sound.1, ap (λ (f : FileName). get files (name_of f)) sound.0 ∙ sound.2, sound.3, sound.4, sound.5))

-- what is so of the cuts so far stays, and this file is planned
file_all : (ends : Ends) (files : Files) (number : ℕ) (layout : Layout) (file : FileName) (old new : List Cut) → IsMine number layout file → PlansFile ends files file old new
    → AllByRecursion (IsGood ends files number layout) old → AllByRecursion (IsGood ends files number layout) new
file_all ends files number layout file old new mine (inl same) all = subst (λ (cs : List Cut). AllByRecursion (IsGood ends files number layout) cs) (sym same.0) all
file_all ends files number layout file old new mine (inr more) all =
    subst (λ (cs : List Cut). AllByRecursion (IsGood ends files number layout) cs) (sym more.1) (all_push ends files number layout old more.0 all (sound_file ends files number layout file more.0 mine more.2))

file_has : (ends : Ends) (files : Files) (file other : FileName) (old new : List Cut) → PlansFile ends files file old new → HasCutOf old other → HasCutOf new other
file_has ends files file other old new (inl same) h = subst (λ (cs : List Cut). HasCutOf cs other) (sym same.0) h
file_has ends files file other old new (inr more) h = subst (λ (cs : List Cut). HasCutOf cs other) (sym more.1) (has_push old more.0 other h)

file_rest : (ends : Ends) (files : Files) (file : FileName) (old new : List Cut) → PlansFile ends files file old new → IsPlain files file ⊎ HasCutOf new file
file_rest ends files file old new (inl same) = inl same.1
file_rest ends files file old new (inr more) = inr (subst (λ (cs : List Cut). HasCutOf cs file) (sym more.1) (has_last old more.0 file more.2.0))

logs_all : (ends : Ends) (files : Files) (number : ℕ) (layout : Layout) (logs : List ℕ) (old new : List Cut) → ((n : ℕ) → Contains logs n → IsNumbered n × IsLive layout n) → PlansLogs ends files logs old new
    → AllByRecursion (IsGood ends files number layout) old → AllByRecursion (IsGood ends files number layout) new
logs_all ends files number layout [] old new live h all = subst (λ (cs : List Cut). AllByRecursion (IsGood ends files number layout) cs) (sym h) all
logs_all ends files number layout (n ∷ logs) old new live h all =
    logs_all ends files number layout logs h.0 new (λ m i. live m (suc i.0, omega (arith, i.1), i.2)) h.2
    (file_all ends files number layout (Log n) old h.0 (live n (0, omega arith, refl)) h.1 all)

logs_has : (ends : Ends) (files : Files) (other : FileName) (logs : List ℕ) (old new : List Cut) → PlansLogs ends files logs old new → HasCutOf old other → HasCutOf new other
logs_has ends files other [] old new h k = subst (λ (cs : List Cut). HasCutOf cs other) (sym h) k
logs_has ends files other (n ∷ logs) old new h k = logs_has ends files other logs h.0 new h.2 (file_has ends files (Log n) other old h.0 h.1 k)

keep_rest : (ends : Ends) (files : Files) (file : FileName) (logs : List ℕ) (old new : List Cut) → PlansLogs ends files logs old new → IsPlain files file ⊎ HasCutOf old file → IsPlain files file ⊎ HasCutOf new file
keep_rest ends files file logs old new h (inl plain) = inl plain
keep_rest ends files file logs old new h (inr has) = inr (logs_has ends files file logs old new h has)

logs_rest : (ends : Ends) (files : Files) (logs : List ℕ) (old new : List Cut) (n : ℕ) → PlansLogs ends files logs old new → Contains logs n → IsPlain files (Log n) ⊎ HasCutOf new (Log n)
logs_rest ends files [] old new n h i = absurd (none_in n i)
logs_rest ends files (m ∷ logs) old new n h (zero, lt, e) =
    let same : m ≡ n = e in
    subst (λ (k : ℕ). IsPlain files (Log k) ⊎ HasCutOf new (Log k)) same (keep_rest ends files (Log m) logs h.0 new h.2 (file_rest ends files (Log m) old h.0 h.1))
logs_rest ends files (m ∷ logs) old new n h (suc k, lt, e) = logs_rest ends files logs h.0 new n h.2 (k, omega (arith, lt), e)

-- a log that isn't among the names isn't there
log_rest : (ends : Ends) (files : Files) (layout : Layout) (names : List (List ℕ)) (logs : List ℕ) (old new : List Cut) (n : ℕ) (there : Option (List ℕ)) → there ≡ get files (name_of (Log n)) → Lists files names → AreLogsOf layout names logs
    → PlansLogs ends files logs old new → IsNumbered n → IsLive layout n → IsPlain files (Log n) ⊎ HasCutOf new (Log n)
log_rest ends files layout names logs old new n None e lists h plans is live =
    inl (λ bytes there. let both : None ≡ Some bytes = e ∙ there in absurd cc)
log_rest ends files layout names logs old new n (Some bytes) e lists h plans is live =
    let there : contains_key files (name_of (Log n)) ≡ true = ap is_some (sym e) in
    logs_rest ends files logs old new n plans (h.1 n is live (name_listed files names (name_of (Log n)) lists there))

pub planned : (ends : Ends) (files : Files) (number : ℕ) (layout : Layout) (names : List (List ℕ)) (logs : List ℕ) (first cuts : List Cut) → Lists files names → AreLogsOf layout names logs
    → PlansFile ends files (Manifest number) [] first → PlansLogs ends files logs first cuts → ArePlanned ends files number layout cuts
planned ends files number layout names logs first cuts lists h manifest plans = record {
  sound = logs_all ends files number layout logs first cuts h.0 plans (file_all ends files number layout (Manifest number) [] first refl manifest tt);
  rest = rest_of;
}
  where
    rest_of : (file : FileName) → IsMine number layout file → IsPlain files file ⊎ HasCutOf cuts file
    rest_of (Manifest n) mine =
        let same : n ≡ number = mine in
        subst (λ (k : ℕ). IsPlain files (Manifest k) ⊎ HasCutOf cuts (Manifest k)) (sym same) (keep_rest ends files (Manifest number) logs first cuts plans (file_rest ends files (Manifest number) [] first manifest))
    rest_of (Log n) mine = log_rest ends files layout names logs first cuts n (get files (name_of (Log n))) refl lists h plans mine.0 mine.1
    rest_of Current mine = absurd mine
    rest_of Lock mine = absurd mine
    rest_of (Table n) mine = absurd mine
    rest_of (OldTable n) mine = absurd mine
    rest_of (Temporary n) mine = absurd mine

-- ---- one more log

pub logs_step : (ends : Ends) (files : Files) (logs : List ℕ) (i n : ℕ) (old mid new : List Cut) → i < length logs → n ≡ get_or logs i n → PlansLogs ends files (take i logs) old mid → PlansFile ends files (Log n) mid new → PlansLogs ends files (take (i + 1) logs) old new
logs_step ends files logs i n old mid new lt is h k =
    subst (λ (ns : List ℕ). PlansLogs ends files ns old new) (ap (λ (m : ℕ). take i logs ++ m ∷ []) is ∙ sym (take_more logs i n lt)) (logs_push (take i logs) old h)
  where
    logs_push : (ns : List ℕ) (from : List Cut) → PlansLogs ends files ns from mid → PlansLogs ends files (ns ++ n ∷ []) from new
    logs_push [] from p = (new, subst (λ (cs : List Cut). PlansFile ends files (Log n) cs new) p k, refl)
    logs_push (m ∷ ns) from p = (p.0, p.1, logs_push ns p.0 p.2)

pub read-again : (ns : List ℕ) (i : ℕ) → i < length ns → get_or ns i 0 ≡ get_or ns i (get_or ns i 0)
read-again [] i lt = absurd (omega arith)
read-again (n ∷ ns) zero lt = refl
read-again (n ∷ ns) (suc i) lt = read-again ns i (omega (arith, lt))

pub log_at : (logs : List ℕ) (i : ℕ) → i < length logs → Contains logs (get_or logs i 0)
log_at logs i lt = (i, lt, sym (read-again logs i lt))

-- what is planned by files that stay
pub plans_moved : (ends : Ends) (old mid : Facts) (file : FileName) (before after : List Cut) → mid.files ≡ old.files → PlansFile ends mid.files file before after → PlansFile ends old.files file before after
plans_moved ends old mid file before after same h = subst (λ (fs : Files). PlansFile ends fs file before after) same h

pub front_moved : (ends : Ends) (old mid : Facts) (file : FileName) → mid.files ≡ old.files → HasNoFront ends mid.files file → HasNoFront ends old.files file
front_moved ends old mid file same h = subst (λ (fs : Files). HasNoFront ends fs file) same h
