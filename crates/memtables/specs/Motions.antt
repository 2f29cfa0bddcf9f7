-- The moves of a cursor, told apart.
use Rattle.std.specs.Prelude.{ℕ, Bool, IsTrue, Option}
use Rattle.cursor.specs.Cuts.{Cut, first_cut, key_cut, last_cut, next_cut, prev_cut}
use Rattle.cursor.specs.Places.{Cmp, Listed, to_first, to_key, to_last, to_next, to_prev}
use Rattle.ikey.specs.Keys.{Key, IsKey}
use Rattle.memtables.specs.declared.motion.Motion.{Motion}
use Rattle.memtables.specs.declared.motion.Motion.TheVariants.{First, Last, Seek, Next, Prev}

-- to the entry beside only from an entry
abbrev pub MayGo : Motion → Bool → Type 0
MayGo First stands = Unit {0}
MayGo Last stands = Unit {0}
MayGo (Seek target) stands = Unit {0}
MayGo Next stands = IsTrue stands
MayGo Prev stands = IsTrue stands

-- it is so of the place where the motion leads, whichever key its target is
abbrev pub LeadsMotion : Cmp → Motion → ((Listed → Option ℕ) → Type 0) → Type 0
LeadsMotion cmp First is = is to_first
LeadsMotion cmp Last is = is to_last
LeadsMotion cmp (Seek target) is = (key : Key) → IsKey target.now key → is (to_key cmp key)
LeadsMotion cmp Next is = is to_next
LeadsMotion cmp Prev is = is to_prev

-- it is so of the cut to which the motion leads, whichever key its target is
abbrev pub LeadsCut : Motion → ((Listed → Cut) → Type 0) → Type 0
LeadsCut First is = is first_cut
LeadsCut Last is = is last_cut
LeadsCut (Seek target) is = (key : Key) → IsKey target.now key → is (key_cut key)
LeadsCut Next is = is next_cut
LeadsCut Prev is = is prev_cut
