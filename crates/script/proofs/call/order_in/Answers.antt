use Rattle.std.proofs.Common.{rules}
use Rattle.script.proofs.call.order_in.Goals.{in_default-via-then-word-lt4, in_default-via-else-word-lt4+then-word-lt5+in-104+in-101+in-97+in_default-1, in_default-via-else-word-lt4+then-word-lt5+in-104+in-101+in_default-1, in_default-via-else-word-lt4+then-word-lt5+in-104+in_default-1, in_default-via-else-word-lt4+then-word-lt5+in-109+in-117+in-116+in_default-1, in_default-via-else-word-lt4+then-word-lt5+in-109+in-117+in_default-1, in_default-via-else-word-lt4+then-word-lt5+in-109+in_default-1, in_default-via-else-word-lt4+then-word-lt5+in_default-1, in_default-via-else-word-lt4+else-word-lt5+then-word-lt6+in-115+in-112+in-111+in-105+in_default-1, in_default-via-else-word-lt4+else-word-lt5+then-word-lt6+in-115+in-112+in-111+in_default-1, in_default-via-else-word-lt4+else-word-lt5+then-word-lt6+in-115+in-112+in_default-1, in_default-via-else-word-lt4+else-word-lt5+then-word-lt6+in-115+in_default-1, in_default-via-else-word-lt4+else-word-lt5+then-word-lt6+in-99+in-108+in-111+in-115+in_default-1, in_default-via-else-word-lt4+else-word-lt5+then-word-lt6+in-99+in-108+in-111+in_default-1, in_default-via-else-word-lt4+else-word-lt5+then-word-lt6+in-99+in-108+in_default-1, in_default-via-else-word-lt4+else-word-lt5+then-word-lt6+in-99+in_default-1, in_default-via-else-word-lt4+else-word-lt5+then-word-lt6+in_default-1, in_default-via-else-word-lt4+else-word-lt5+else-word-lt6}
use Rattle.script.proofs.call.order_in.Goals as goal

pub returns-in_default : goal.returns-in_default
returns-in_default c = elim c.in_default.branch [
  | in_default-via-then-word-lt4 w ↦ search rules
  | in_default-via-else-word-lt4+then-word-lt5+in-104+in-101+in-97+in_default-1 w ↦ search rules
  | in_default-via-else-word-lt4+then-word-lt5+in-104+in-101+in_default-1 w ↦ search rules
  | in_default-via-else-word-lt4+then-word-lt5+in-104+in_default-1 w ↦ search rules
  | in_default-via-else-word-lt4+then-word-lt5+in-109+in-117+in-116+in_default-1 w ↦ search rules
  | in_default-via-else-word-lt4+then-word-lt5+in-109+in-117+in_default-1 w ↦ search rules
  | in_default-via-else-word-lt4+then-word-lt5+in-109+in_default-1 w ↦ search rules
  | in_default-via-else-word-lt4+then-word-lt5+in_default-1 w ↦ search rules
  | in_default-via-else-word-lt4+else-word-lt5+then-word-lt6+in-115+in-112+in-111+in-105+in_default-1 w ↦ search rules
  | in_default-via-else-word-lt4+else-word-lt5+then-word-lt6+in-115+in-112+in-111+in_default-1 w ↦ search rules
  | in_default-via-else-word-lt4+else-word-lt5+then-word-lt6+in-115+in-112+in_default-1 w ↦ search rules
  | in_default-via-else-word-lt4+else-word-lt5+then-word-lt6+in-115+in_default-1 w ↦ search rules
  | in_default-via-else-word-lt4+else-word-lt5+then-word-lt6+in-99+in-108+in-111+in-115+in_default-1 w ↦ search rules
  | in_default-via-else-word-lt4+else-word-lt5+then-word-lt6+in-99+in-108+in-111+in_default-1 w ↦ search rules
  | in_default-via-else-word-lt4+else-word-lt5+then-word-lt6+in-99+in-108+in_default-1 w ↦ search rules
  | in_default-via-else-word-lt4+else-word-lt5+then-word-lt6+in-99+in_default-1 w ↦ search rules
  | in_default-via-else-word-lt4+else-word-lt5+then-word-lt6+in_default-1 w ↦ search rules
  | in_default-via-else-word-lt4+else-word-lt5+else-word-lt6 w ↦ search rules
]
