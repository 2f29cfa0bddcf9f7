-- What an open promises, by what was kept of it.
use Rattle.std.proofs.Common.{◌≡◌, ℕ, ℤ, true, false, List, [], Option, Some, None, is_some, inl, inr, refl, sym, subst}
use mathlib.Core.Bool.{true≢false}
use Rattle.coding.specs.declared.error.DbError.{DbError}
use Rattle.engine.specs.OptionValues.{OptionValues}
use Rattle.machine.specs.declared.command.Mode.{Mode}
use Rattle.store.specs.declared.file_store.FileStore.{FileStore}
use Rattle.c_calls.specs.Calls.{bytewise}
use Rattle.c_calls.specs.Folders.{Begins, BeginsNot, IsMode}
use Rattle.c_calls.specs.Told.{number}
use Rattle.c_calls.specs.declared.handle.Handle.{Handle}
use Rattle.wachuspi.specs.Handles.{folder_facts}
use Rattle.wachuspi.specs.Opening.{KeptTold, OpenTold, StoreTold, options_in, unread}
use Rattle.wachuspi.specs.declared.crossing.COptions.{COptions}
use Rattle.wachuspi.specs.declared.held.Held.{Held}

pub kept_told : (code : ℤ) (mode : Mode) (options : OptionValues) (store : FileStore) (handle : Handle FileStore) (held : Option Held) → folder_facts store ≡ unread → handle.iterators.items ≡ []
    → Begins bytewise folder_facts mode options store handle.db → KeptTold handle held code → StoreTold mode options held code
kept_told code mode options store handle (Some held) fresh nowhere begins kept = (
  kept.0,
  subst (λ (it : Handle FileStore). it.iterators.items ≡ []) (sym kept.1) nowhere,
  store,
  fresh,
  subst (λ (it : Handle FileStore). Begins bytewise folder_facts mode options store it.db) (sym kept.1) begins,
)
kept_told code mode options store handle None fresh nowhere begins kept = inl kept

pub refused_told : (code : ℤ) (mode : Mode) (options : OptionValues) (store left : FileStore) (e : DbError) (held : Option Held) → held ≡ None → folder_facts store ≡ unread
    → BeginsNot bytewise folder_facts mode store left e → code ≡ number e → StoreTold mode options held code
refused_told code mode options store left e None none fresh refused is = inr (store, left, e, fresh, refused, is)
refused_told code mode options store left e (Some held) none fresh refused is = absurd (cc)

pub holds_none : {A : Type 0} (o : Option A) → is_some o ≡ false → o ≡ None
holds_none None h = refl
holds_none (Some x) h = absurd (true≢false h)

pub open_told : (code : ℤ) (mode : ℕ) (options : COptions) (old new : Option Held) (how : Mode) (given : OptionValues) → old ≡ None → given ≡ options_in options → IsMode mode (Some how)
    → StoreTold how given new code → OpenTold mode options old new code
open_told code mode options None (Some new) how given none same is told = (how, is, subst (λ (o : OptionValues). StoreTold how o (Some new) code) same told)
open_told code mode options None None how given none same is told = inr (how, is, told)
open_told code mode options (Some old) new how given none same is told = absurd (cc)
