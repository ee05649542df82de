use Rattle.std.proofs.Common.{◌≡◌, ℕ, ◌-◌, true, length, take, replicate, sym, ap, ◌∙◌, arith}
use Rattle.buffers.proofs.Overs.{take-over}
use Rattle.frames.specs.Check.{seal}
use Rattle.frames.specs.Sealing.{sealing, written}
use Rattle.frames.specs.Sizes.{longest_body}
use Rattle.activation.specs.Ats.{Ats, ats_of}
use Rattle.activation.specs.Views.{said_by}
use Rattle.activation.specs.Writing.{ats_valid, ats_writing}
use Rattle.activation.proofs.answer_writing.write_ats.Goals as goal

valid_goes : (a : Ats) (buffer : ℕ) → true ≡ ats_valid a → sealing (ats_of a) buffer ≡ ats_writing a buffer
valid_goes a buffer valid = rw (sym valid)

pub returns : goal.returns
returns c =
    let a = said_by c.args.ats in
    let n = c.put_ats-tl.result - 0 in
    let old = c.args.out.now in
    let long : n ≡ length (ats_of a) = omega (arith, c.put_ats-tl.ensures.value) in
    let body : take n c.put_ats-tl.new.out ≡ ats_of a =
    ap (λ l. take n l) c.put_ats-tl.ensures.bytes ∙ take-over (ats_of a) (replicate longest_body 0) n long in
    record {
      value =
          c.seal.ensures.value
          ∙ ap (λ l. sealing l (length old)) body
          ∙ valid_goes a (length old) c.if-not-is_valid.ensures;
      bytes = c.seal.ensures.bytes ∙ ap (λ l. written c.seal.result (seal l) old) body;
    }
