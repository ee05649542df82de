-- Steps of reading and printing digits.
use Rattle.std.proofs.Common.{◌≡◌, ℕ, zero, suc, ◌+◌, ◌*◌, ◌/◌, ◌%◌, ◌<◌, ◌≤◌, List, [], ◌∷◌, ◌++◌, length, get_or, set, take, drop, Some, None, Option, sym, refl, ap, ap₂, ◌∙◌, append_assoc, append-nil, length-set, arith}
use Rattle.std.proofs.lemmas.List.{at_drop_more, at_drop_all, take_more, take_more_set}
use Rattle.std.proofs.lemmas.Bool.Decides.{nat_tests}
use Rattle.std.specs.Simd.{first_chunks}
use Rattle.std.specs.Str.{IsAscii}
use Rattle.text.specs.Hex.{byte_of, before, unhex, upper, hex}

-- bytes already read, and those that are left
abbrev pub follow : List ℕ → Option (List ℕ) → Option (List ℕ)
follow xs None = None
follow xs (Some ys) = Some (xs ++ ys)

follow_more : (xs : List ℕ) (b : ℕ) (o : Option (List ℕ)) → follow (xs ++ b ∷ []) o ≡ follow xs (before (Some b) o)
follow_more xs b None = refl
follow_more xs b (Some ys) = ap (λ l. Some l) (append_assoc xs (b ∷ []) ys)

-- the bytes that pairs of digits stand for
abbrev pub bytes_of : List (List ℕ) → Option (List ℕ)
bytes_of [] = Some []
bytes_of (p ∷ ps) = before (byte_of (get_or p 0 0) (get_or p 1 0)) (bytes_of ps)

-- digits in pairs, and none behind them
pub unhex-pairs : (k : ℕ) (text : List ℕ) → length text ≡ k * 2 → unhex text ≡ bytes_of (first_chunks 2 k text)
unhex-pairs zero [] h = refl
unhex-pairs zero (x ∷ text) h = absurd (omega arith)
unhex-pairs (suc k) [] h = absurd (omega arith)
unhex-pairs (suc k) (x ∷ []) h = absurd (omega arith)
unhex-pairs (suc k) (x ∷ y ∷ text) h = ap (before (byte_of x y)) (unhex-pairs k text (omega arith))

before_none : (o : Option ℕ) → None ≡ before o None
before_none None = refl
before_none (Some b) = refl

-- one digit stands behind the pairs
pub unhex-odd : (k : ℕ) (text : List ℕ) → length text ≡ k * 2 + 1 → None ≡ unhex text
unhex-odd zero [] h = absurd (omega arith)
unhex-odd zero (x ∷ []) h = refl
unhex-odd zero (x ∷ y ∷ text) h = absurd (omega arith)
unhex-odd (suc k) [] h = absurd (omega arith)
unhex-odd (suc k) (x ∷ []) h = absurd (omega arith)
unhex-odd (suc k) (x ∷ y ∷ text) h = before_none (byte_of x y) ∙ ap (before (byte_of x y)) (unhex-odd k text (omega arith))

-- nothing is read yet
pub read_start : (text : List ℕ) (pairs : List (List ℕ)) (xs : List ℕ) → length text % 2 ≡ 0 → pairs ≡ first_chunks 2 (length text / 2) text → xs ≡ [] → follow xs (bytes_of (drop 0 pairs)) ≡ unhex text
read_start text pairs xs h e none =
    ap₂ (λ l p. follow l (bytes_of p)) none e ∙ same (bytes_of (first_chunks 2 (length text / 2) text))
    ∙ sym (unhex-pairs (length text / 2) text (omega arith))
  where
    same : (o : Option (List ℕ)) → follow [] o ≡ o
    same None = refl
    same (Some ys) = refl

module _ (pairs : List (List ℕ)) (xs : List ℕ) (i : ℕ) (whole : Option (List ℕ)) (inv : follow xs (bytes_of (drop i pairs)) ≡ whole) where
  abbrev next : Option ℕ
  next = byte_of (get_or (get_or pairs i []) 0 0) (get_or (get_or pairs i []) 1 0)

  pub read_on : (b : ℕ) → i < length pairs → next ≡ Some b → follow (xs ++ b ∷ []) (bytes_of (drop (i + 1) pairs)) ≡ whole
  read_on b h e =
      follow_more xs b (bytes_of (drop (i + 1) pairs))
      ∙ ap (λ o. follow xs (before o (bytes_of (drop (i + 1) pairs)))) (sym e)
      ∙ ap (follow xs) (sym (at_drop_more bytes_of pairs i [] h)) ∙ inv

-- Digits printed.

pub hex-append : (xs ys : List ℕ) → hex (xs ++ ys) ≡ hex xs ++ hex ys
hex-append [] ys = refl
hex-append (x ∷ xs) ys = ap (λ l. upper (x / 16) ∷ upper (x % 16) ∷ l) (hex-append xs ys)

pub hex_more : (xs : List ℕ) (i : ℕ) → i < length xs → hex (take (i + 1) xs) ≡ hex (take i xs) ++ hex (get_or xs i 0 ∷ [])
hex_more xs i h = ap hex (take_more xs i 0 h) ∙ hex-append (take i xs) (get_or xs i 0 ∷ [])

pub two_put : (digits : List ℕ) (i a b : ℕ) → 2 * i + 1 < length digits → take (2 * (i + 1)) (set (set digits (2 * i) a) (2 * i + 1) b) ≡ take (2 * i) digits ++ a ∷ b ∷ []
two_put digits i a b h =
    let two : 2 * (i + 1) ≡ 2 * i + 1 + 1 = omega arith in
    ap (λ n. take n (set (set digits (2 * i) a) (2 * i + 1) b)) two
    ∙ take_more_set (set digits (2 * i) a) (2 * i + 1) b (omega (arith, length-set {A = ℕ}))
    ∙ ap (λ l. l ++ b ∷ []) (take_more_set digits (2 * i) a (omega arith))
    ∙ append_assoc (take (2 * i) digits) (a ∷ []) (b ∷ [])

-- one byte appended
pub print_on : (bytes xs ys whole : List ℕ) (i a b : ℕ) → i < length bytes → a ≡ upper (get_or bytes i 0 / 16) → b ≡ upper (get_or bytes i 0 % 16) → ys ≡ (xs ++ a ∷ []) ++ b ∷ [] → xs ++ hex (drop i bytes) ≡ whole → ys ++ hex (drop (i + 1) bytes) ≡ whole
print_on bytes xs ys whole i a b h ea eb e inv =
    let tail : List ℕ = hex (drop (i + 1) bytes) in
    ap (λ l. l ++ tail) e ∙ append_assoc (xs ++ a ∷ []) (b ∷ []) tail ∙ append_assoc xs (a ∷ []) (b ∷ tail)
    ∙ (λ k. xs ++ (ea k ∷ eb k ∷ tail)) ∙ ap (λ l. xs ++ l) (sym (at_drop_more hex bytes i 0 h)) ∙ inv

-- all of them
pub print_all : (bytes xs whole : List ℕ) (i : ℕ) → length bytes ≤ i → xs ++ hex (drop i bytes) ≡ whole → xs ≡ whole
print_all bytes xs whole i h inv = sym (append-nil xs) ∙ ap (λ l. xs ++ l) (sym (at_drop_all hex bytes i h)) ∙ inv

upper_small : (n : ℕ) → n < 16 → upper n < 128
upper_small n h = grind (arith, nat_tests)

pub IsAscii-hex : (xs : List ℕ) → ((k : ℕ) → get_or xs k 0 < 256) → IsAscii (hex xs)
IsAscii-hex [] small k = omega arith
IsAscii-hex (x ∷ xs) small zero = let h : x < 256 = small 0 in upper_small (x / 16) (omega arith)
IsAscii-hex (x ∷ xs) small (suc zero) = upper_small (x % 16) (omega arith)
IsAscii-hex (x ∷ xs) small (suc (suc k)) = IsAscii-hex xs (λ j. small (suc j)) k
