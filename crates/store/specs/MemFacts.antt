-- What is known of a store in memory.
use Rattle.std.specs.Prelude.{◌-◌, ◌^◌, nat_lt}
use Rattle.store.specs.declared.memory.MemStore.{MemStore}
use Rattle.store.specs.Files.{Facts, Disk}
use Rattle.store.specs.Past.{calls_of}
use Rattle.store.specs.MemStore.{files_of, synced_of}

abbrev pub disk_in : MemStore → Disk
disk_in store = record { files = files_of store.files.entries; synced = synced_of store.files.entries }

-- It is faithful while it can count a further failure: a call that must answer Device raises the
-- count, and the counter has 64 bits.
abbrev pub mem_facts : MemStore → Facts
mem_facts store = record {
  files = files_of store.files.entries;
  synced = synced_of store.files.entries;
  calls = calls_of store.past.items (disk_in store);
  faithful = nat_lt store.counters.failures (2 ^ 64 - 1);
  locked = store.locked;
  failures = store.counters.failures;
  write_failures = store.counters.write_failures;
  denials = store.counters.denials;
}
