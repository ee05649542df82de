-- The bytes that a store has gathered.
use Rattle.std.specs.Prelude.{ℕ, List, take}
use Rattle.buffers.specs.declared.store.Store.{Store}

abbrev pub held : {N : ℕ} → Store N → List ℕ
held s = take s.len s.bytes
