-- What a yarn record promises to whoever reads and writes it, over any sequence of commands.
use Rattle.std.specs.Prelude.{◌≡◌, ℕ, ◌+◌, ◌-◌, ◌<◌, ◌≤◌, ◌⊎◌, List, [], ◌∷◌, ◌++◌, length, take, drop, slice_index}
use Rattle.applications.specs.App.{App, after}
use Rattle.applications.specs.History.{Exchange, exchange, history}
use Rattle.applications.specs.Status.{word_of}
use Rattle.applications.specs.Yarn.{record_size, offset_of, read_length}
use Rattle.applications.specs.declared.status.StatusWord.TheVariants.{Good}
use Rattle.applications.specs.declared.yarn.Yarn.{Yarn}

-- the command that reads: class 00, instruction B0, the offset and how many bytes are wanted
abbrev pub read_command : (p1 p2 le : ℕ) → List ℕ
read_command p1 p2 le = 0x00 ∷ 0xB0 ∷ p1 ∷ p2 ∷ le ∷ []

-- the command that writes: class 00, instruction D6, the offset, how many bytes follow, and the bytes
abbrev pub write_command : (p1 p2 : ℕ) → List ℕ → List ℕ
write_command p1 p2 bytes = 0x00 ∷ 0xD6 ∷ p1 ∷ p2 ∷ length bytes ∷ bytes

-- a good write: a command that writes, answered with 9000
pub record GoodWrite (e : Exchange) : Type 0 where
  pub p1 : ℕ
  pub p2 : ℕ
  pub bytes : List ℕ
  pub commanded : e.command ≡ write_command p1 p2 bytes
  pub answered : e.answer ≡ word_of Good

-- it touches the places from its offset on, one for each of its bytes
abbrev pub Touches : {e : Exchange} → GoodWrite e → ℕ → Type 0
Touches w k = (offset_of w.p1 w.p2 ≤ k) × (k < offset_of w.p1 w.p2 + length w.bytes)

-- the byte that it puts at a place that it touches
abbrev pub put_there : {e : Exchange} → GoodWrite e → ℕ → ℕ
put_there w k = slice_index w.bytes (k - offset_of w.p1 w.p2)

-- no good write of a history touches the place
abbrev pub Untouched : ℕ → List Exchange → Type 0
Untouched k [] = Unit {0}
Untouched k (e ∷ es) = ((w : GoodWrite e) → Touches w k → ⊥) × Untouched k es

-- the last good write of a history that touches the place
pub record LastWrite (k : ℕ) (h : List Exchange) : Type 0 where
  pub before : List Exchange
  pub last : Exchange
  pub later : List Exchange
  pub split : h ≡ before ++ (last ∷ later)
  pub write : GoodWrite last
  pub touches : Touches write k
  pub untouched : Untouched k later

-- the byte that stands at a place after a history: the one that the last good write touching it put there, or, where
-- none touched it, the one that it started with
abbrev pub Stands : (place start : ℕ) → List Exchange → (byte : ℕ) → Type 0
Stands k start h byte = (Untouched k h × (byte ≡ start)) ⊎ ((l : LastWrite k h) × (byte ≡ put_there l.write k))

pub record YarnLaws (a : App Yarn) : Type 0 where
  -- after any commands, each byte of the record is the one that stands there
  pub remembers :
      (y : Yarn) (cs : List (List ℕ)) (k : ℕ) → k < record_size
      → Stands k (slice_index y.bytes k) (history a y cs) (slice_index (after a y cs).bytes k)
  -- nothing but a good write changes a byte
  pub only_writes_change : (y : Yarn) (c : List ℕ) → (a.next y c ≡ y) ⊎ GoodWrite (exchange a y c)
  -- a good read lies within the record and returns exactly the bytes that stand there
  pub reads_exactly :
      (y : Yarn) (p1 p2 le : ℕ) (bytes : List ℕ) → a.answer y (read_command p1 p2 le) ≡ bytes ++ word_of Good
      → (offset_of p1 p2 + read_length le ≤ record_size) × (bytes ≡ take (read_length le) (drop (offset_of p1 p2) y.bytes))
  -- so a good read after any commands returns at each of its places the byte that stands there
  pub reads_back :
      (y : Yarn) (cs : List (List ℕ)) (p1 p2 le : ℕ) (bytes : List ℕ)
      → a.answer (after a y cs) (read_command p1 p2 le) ≡ bytes ++ word_of Good
      → (j : ℕ) → j < read_length le
      → Stands (offset_of p1 p2 + j) (slice_index y.bytes (offset_of p1 p2 + j)) (history a y cs) (slice_index bytes j)
  -- a read within the record is good
  pub reads-within :
      (y : Yarn) (p1 p2 le : ℕ) → offset_of p1 p2 + read_length le ≤ record_size
      → (bytes : List ℕ) × (a.answer y (read_command p1 p2 le) ≡ bytes ++ word_of Good)
  -- a write of one byte or more within the record is good
  pub writes-within :
      (y : Yarn) (p1 p2 : ℕ) (bytes : List ℕ) → 0 < length bytes → offset_of p1 p2 + length bytes ≤ record_size
      → a.answer y (write_command p1 p2 bytes) ≡ word_of Good
  -- it never asks for a wait
  pub no_waits : (y : Yarn) (c : List ℕ) → a.waits y c ≡ 0
