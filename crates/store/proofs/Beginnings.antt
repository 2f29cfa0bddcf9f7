-- What is synced of a file in memory is a beginning of what it holds.
use Rattle.std.proofs.Common.{◌≡◌, ℕ, List, Option, Some, None, sym, subst, String, take, drop, ◌++◌, ◌∙◌, is_some, ap}
use mathlib.Core.Bool.{true≢false}
use Rattle.std.proofs.lemmas.List.{take-append-drop}
use Rattle.std.specs.BTreeMap.{BTreeMap, get_by_text}
use Rattle.std.specs.Option.{option_map, option_and_then}
use Rattle.std.specs.declared.alloc.Global.{Global}
use Rattle.std.specs.FinMap.{get}
use Rattle.store.specs.Losses.{BeginsWith}
use Rattle.store.specs.MemFile.{front_of, synced_bytes}
use Rattle.store.specs.MemStore.{files_of, synced_of}
use Rattle.store.specs.declared.mem_file.MemFile.{MemFile}
use Rattle.store.proofs.MemFiles.{get-files_of}

some_is : (a b : List ℕ) → Some a ≡ Some b → a ≡ b
some_is a b is = cc

-- some first bytes of these, as many as are synced, if any
front_begins : (bytes synced : List ℕ) (count : Option ℕ) → front_of bytes count ≡ Some synced → BeginsWith bytes synced
front_begins bytes synced None is = absurd (true≢false (sym (ap is_some is)))
front_begins bytes synced (Some count) is = (drop count bytes, sym (take-append-drop count bytes) ∙ (λ i. some_is (take count bytes) synced is i ++ drop count bytes))

of_file : (file : Option MemFile) (held synced : List ℕ) → option_map (λ (v : MemFile). v.bytes) file ≡ Some held → option_and_then (λ (v : MemFile). synced_bytes v) file ≡ Some synced → BeginsWith held synced
of_file None held synced at kept = absurd (true≢false (sym (ap is_some at)))
of_file (Some file) held synced at kept = subst (λ bytes. BeginsWith bytes synced) (some_is file.bytes held at) (front_begins file.bytes synced file.synced kept)

pub synced_begins : (m : BTreeMap (String Global) MemFile) (name held synced : List ℕ) → get (files_of m.entries) name ≡ Some held → synced_of m.entries name ≡ Some synced → BeginsWith held synced
synced_begins m name held synced at kept = of_file (get_by_text m name) held synced (sym (get-files_of m name) ∙ at) kept
