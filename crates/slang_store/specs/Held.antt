-- What files in memory hold.
use Rattle.std.specs.Prelude.{ℕ, List, Option}
use Rattle.std.specs.Option.{option_map}
use Rattle.std.specs.Ordering.{nat_cmp}
use Rattle.std.specs.Cmp.Lexicographic.{slice_cmp}
use Rattle.std.specs.BTreeMap.{get_by}
use Rattle.slang_store.specs.declared.memory_files.MemoryFiles.{MemoryFiles}

-- the bytes that a name has, or None
abbrev pub held : MemoryFiles → List ℕ → Option (List ℕ)
held files name = option_map (λ bytes. bytes.items) (get_by (λ key. slice_cmp nat_cmp name key.items) files.entries)
