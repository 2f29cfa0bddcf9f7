-- Laws of cursors over the memtables.
use Rattle.std.specs.Prelude.{◌≡◌, ◌<◌, ◌++◌, ℕ, Bool, true, false, List, Option, Some, None, IsSomeAnd, is_some, length, nat_eq}
use Rattle.std.specs.Option.{option_and_then, option_map}
use Rattle.std.proofs.Common.{ap, append_assoc, cond, refl, sym, ◌∙◌}
use Rattle.ikey.specs.declared.entry.Entry.{Entry}
use Rattle.memtable.specs.Order.{ordered}
use Rattle.memtable.specs.Places.{up_to}
use Rattle.cursor.specs.Places.{Cmp, Listed, Rises}
use Rattle.memtable.specs.Contents.{Contents}
use Rattle.memtables.specs.Changes.{HasMoreEntries}
use Rattle.memtables.specs.Memories.{IsAlone, Memories, inserts_of, logged_in, older_at, sealed_inserts, table_in}
use Rattle.memtables.specs.Places.{MemoriesPlace, ListsMemories, KeepsMemories, LeavesMemories, older_inserts, seen_by}
use Rattle.table_access.specs.Memory.{MemoryPlace, ListsMemory}
use Rattle.table_access.specs.MemoryLists.{is_placed, is_inside, lists_kept}

with_table : (P : Type 0) (table : Option Contents) (is : Contents → Type 0) → IsSomeAnd table is → ((t : Contents) → is t → P) → P
with_table P None is h f = absurd h
with_table P (Some t) is h f = f t h

pub lists_rise : (cmp : Cmp) (cursor : MemoriesPlace) (memories : Memories) (at : Listed) → ListsMemories cmp cursor memories at → Rises cmp at.entries
lists_rise cmp cursor memories at h = with_table _ (table_in memories cursor.generation) _ h (λ table k. k.rises)

pub placed_there : (cmp : Cmp) (cursor : MemoriesPlace) (memories : Memories) (at : Listed) → ListsMemories cmp cursor memories at → is_some cursor.place.node ≡ is_some at.place
placed_there cmp cursor memories at h = with_table _ (table_in memories cursor.generation) _ h (λ table k. is_placed cursor.place.node cursor.place.key _ at.place k.place)

pub inside_there : (cmp : Cmp) (cursor : MemoriesPlace) (memories : Memories) (at : Listed) (index : ℕ) → ListsMemories cmp cursor memories at → at.place ≡ Some index → index < length at.entries
inside_there cmp cursor memories at index h e = with_table _ (table_in memories cursor.generation) _ h (λ table k. is_inside cmp cursor.place _ at index k e)

kept_of : (cmp : Cmp) (place : MemoryPlace) (old new : Option Contents) (at : Listed) → option_map (seen_by cmp place) old ≡ option_map (seen_by cmp place) new
    → IsSomeAnd old (λ (table : Contents). ListsMemory cmp place table at) → IsSomeAnd new (λ (table : Contents). ListsMemory cmp place table at)
kept_of cmp place None new at k h = absurd h
kept_of cmp place (Some s) None at k h = absurd cc
kept_of cmp place (Some s) (Some t) at k h = (let same : seen_by cmp place s ≡ seen_by cmp place t = cc in lists_kept cmp place _ _ at same h)

pub kept_there : (cmp : Cmp) (cursor : MemoriesPlace) (old new : Memories) (at : Listed) → KeepsMemories cmp cursor old new → ListsMemories cmp cursor old at → ListsMemories cmp cursor new at
kept_there cmp cursor old new at k h = kept_of cmp cursor.place (table_in old cursor.generation) (table_in new cursor.generation) at k h

pub left_there : (memories : Memories) → LeavesMemories memories memories
left_there memories = record { inserts = refl; last = refl; generation = refl; sealed = refl; older = λ generation. refl }

pub left_onward : (first second third : Memories) → LeavesMemories first second → LeavesMemories second third → LeavesMemories first third
left_onward first second third k l = record {
  inserts = l.inserts ∙ k.inserts;
  last = l.last ∙ k.last;
  generation = l.generation ∙ k.generation;
  sealed = l.sealed ∙ k.sealed;
  older = λ generation. l.older generation ∙ k.older generation;
}

mapped_inserts : (cmp : Cmp) (place : MemoryPlace) (old new : Option Contents) → option_map (λ (table : Contents). table.inserts) new ≡ option_map (λ (table : Contents). table.inserts) old → option_map (seen_by cmp place) old ≡ option_map (seen_by cmp place) new
mapped_inserts cmp place None None e = refl
mapped_inserts cmp place (Some s) (Some t) e = let same : t.inserts ≡ s.inserts = cc in ap (λ (es : List Entry). Some (up_to place.sequence (ordered cmp es))) (sym same)
mapped_inserts cmp place None (Some t) e = absurd (cc)
mapped_inserts cmp place (Some s) None e = absurd (cc)

-- every cursor over the tables reads what it read
pub left_kept : (cmp : Cmp) (cursor : MemoriesPlace) (old new : Memories) → LeavesMemories old new → KeepsMemories cmp cursor old new
left_kept cmp cursor old new left = by (nat_eq cursor.generation old.generation) (nat_eq cursor.generation new.generation) (ap (nat_eq cursor.generation) left.generation)
  where
    by : (a b : Bool) → b ≡ a → option_map (seen_by cmp cursor.place) (cond a (Some old.current) (older_at old.older cursor.generation)) ≡ option_map (seen_by cmp cursor.place) (cond b (Some new.current) (older_at new.older cursor.generation))
    by true true e = mapped_inserts cmp cursor.place (Some old.current) (Some new.current) (ap Some left.inserts)
    by false false e = mapped_inserts cmp cursor.place (older_at old.older cursor.generation) (older_at new.older cursor.generation) (left.older cursor.generation)
    by true false e = absurd (cc)
    by false true e = absurd (cc)

inserts_kept : (old new : Option Contents) → option_map (λ (table : Contents). table.inserts) new ≡ option_map (λ (table : Contents). table.inserts) old → inserts_of new ≡ inserts_of old
inserts_kept None None e = refl
inserts_kept (Some s) (Some t) e = let same : t.inserts ≡ s.inserts = cc in same
inserts_kept None (Some t) e = absurd (cc)
inserts_kept (Some s) None e = absurd (cc)

sealed_kept : (old new : Memories) (sealed : Option ℕ) → ((generation : ℕ) → older_inserts new generation ≡ older_inserts old generation)
    → inserts_of (option_and_then (older_at new.older) sealed) ≡ inserts_of (option_and_then (older_at old.older) sealed)
sealed_kept old new None same = refl
sealed_kept old new (Some generation) same = inserts_kept (older_at old.older generation) (older_at new.older generation) (same generation)

-- the entries of the sealed table are the same
pub left_sealed : (old new : Memories) → LeavesMemories old new → sealed_inserts new ≡ sealed_inserts old
left_sealed old new left = ap (λ (o : Option ℕ). inserts_of (option_and_then (older_at new.older) o)) left.sealed ∙ sealed_kept old new old.sealed left.older

-- and those of the logs are too
pub left_logged : (old new : Memories) → LeavesMemories old new → logged_in new ≡ logged_in old
left_logged old new left = λ i. left_sealed old new left i ++ left.inserts i

-- A batch is added after them.
pub written_logged : (old new : Memories) (more : List Entry) → HasMoreEntries old new more → logged_in new ≡ logged_in old ++ more
written_logged old new more written =
    let sealed : sealed_inserts new ≡ sealed_inserts old = ap sealed_inserts written.others in
    (λ i. sealed i ++ written.inserts i) ∙ sym (append_assoc (sealed_inserts old) old.current.inserts more)

-- Where there is one table alone, they are its.
pub alone_logged : (memories : Memories) → IsAlone memories → logged_in memories ≡ memories.current.inserts
alone_logged memories alone = ap (λ (o : Option ℕ). inserts_of (option_and_then (older_at memories.older) o) ++ memories.current.inserts) alone.sealed
