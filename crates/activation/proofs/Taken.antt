-- An ATS taken apart by patterns, a first byte and the rest, is read as it is defined.
use Rattle.std.proofs.Common.{◌≡◌, ℕ, ◌-◌, ◌<◌, ◌≤◌, true, List, [], ◌∷◌, length, get_or, take, drop, arith}
use Rattle.std.proofs.lemmas.Bool.{le-ltb, false≢true}
use Rattle.activation.specs.Ats.{t0_good, announced, length_byte_good, read_interface, read_format, read_ats}
use Rattle.activation.proofs.Parts.{rest_of}

-- the rest that a pattern leaves behind the first byte
abbrev pub left : List ℕ → List ℕ
left xs = take (length xs - 1) (drop 1 xs)

pub behind-t0 :
    (format : List ℕ) → 0 < length format → t0_good (get_or format 0 0) ≡ true → announced (get_or format 0 0) ≤ length (left format)
    → read_interface (get_or format 0 0) (left format) ≡ read_format format
behind-t0 [] some fine enough = absurd (omega arith)
behind-t0 (t0 ∷ rest) some fine enough =
    let all = rest_of (t0 ∷ rest) in
    let held : announced t0 ≤ length rest = rw all at enough in
    rw (all, fine, le-ltb (length rest) (announced t0) held)

pub behind-tl :
    (fsd : ℕ) (body : List ℕ) → length_byte_good fsd (get_or body 0 0) (length body) ≡ true → read_format (left body) ≡ read_ats fsd body
behind-tl fsd [] fine = absurd (false≢true fine)
behind-tl fsd (tl ∷ rest) fine =
    let all = rest_of (tl ∷ rest) in
    rw (all, fine)
