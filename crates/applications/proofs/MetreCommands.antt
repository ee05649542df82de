-- What the metre counter is asked for by a command that draws or asks.
use Rattle.std.proofs.Common.{◌≡◌, ℕ, List, [], length, get_or, drop, Ok, refl, arith}
use Rattle.std.proofs.lemmas.List.{drop_all}
use Rattle.std.proofs.lemmas.Bool.Decides.{nat_tests}
use Rattle.applications.proofs.Heads.{named}
use Rattle.applications.specs.Command.{class, instruction, p1, p2, length_byte}
use Rattle.applications.specs.Metre.{request_of, metres_of}
use Rattle.applications.specs.MetreLaws.{Metres, amount, draw_command, ask_command}
use Rattle.applications.specs.declared.metre.request.Request.TheVariants.{Draw, Ask}

pub draw_request : (n : Metres) → request_of (draw_command n) ≡ Ok (Draw (amount n))
draw_request n = refl

pub ask_request : request_of ask_command ≡ Ok Ask
ask_request = refl

-- the other way round: what is asked to draw is a command that draws
pub record Draws (c : List ℕ) (n : ℕ) : Type 0 where
  pub long : length c ≡ 9
  pub of_class_lem : class c ≡ 0x80
  pub draws : instruction c ≡ 0x10
  pub plain : (p1 c ≡ 0x00) × (p2 c ≡ 0x00)
  pub counted : length_byte c ≡ 4
  pub metres : n ≡ metres_of c

pub draw_asked : (c : List ℕ) (n : ℕ) → request_of c ≡ Ok (Draw n) → Draws c n
draw_asked c n asked = record {
  long = grind (arith, nat_tests);
  of_class_lem = grind (arith, nat_tests);
  draws = grind (arith, nat_tests);
  plain = (grind (arith, nat_tests), grind (arith, nat_tests));
  counted = grind (arith, nat_tests);
  metres = grind (arith, nat_tests);
}

-- the four bytes that a draw brings
abbrev pub brought_by : List ℕ → Metres
brought_by c = record { b3 = get_or c 5 0; b2 = get_or c 6 0; b1 = get_or c 7 0; b0 = get_or c 8 0 }

pub draw_command_lem : (c : List ℕ) (n : ℕ) → Draws c n → c ≡ draw_command (brought_by c)
draw_command_lem c n d =
    let e = named 9 0 c (omega arith) in
    let end : drop 9 c ≡ [] = drop_all 9 c (omega arith) in
    cc
