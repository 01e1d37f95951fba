use Rattle.decode.proofs.Bytes.{slice-bytes}
use Rattle.decode.proofs.Codes.{less-left}
use Rattle.listing.proofs.Listed.{told, stands, listed_start, listed-last, listed-more}
use Rattle.listing.proofs.put_listing.Goals as goal

pub loop-instruction-init : goal.loop-instruction-init
loop-instruction-init c = listed_start c.args.fragment.now c.args.text.now

pub put_instruction-requires : goal.put_instruction-requires
put_instruction-requires c =
    let f = c.args.fragment.now in
    stands f c.loop-instruction.offset (slice-bytes f c.type_inv.fragment) c.in-Some.instruction (told f c.loop-instruction.offset c.decode_at.ensures.same c.in_ok-instruction.was c.in-Some.is)

pub loop-instruction-smaller-then-offset-fragment : goal.loop-instruction-smaller-then-offset-fragment
loop-instruction-smaller-then-offset-fragment c =
    let f = c.args.fragment.now in
    less-left f c.loop-instruction.offset c.in-Some.instruction c.type_inv.fragment (told f c.loop-instruction.offset c.decode_at.ensures.same c.in_ok-instruction.was c.in-Some.is)

pub loop-instruction-preserved-then-offset-fragment : goal.loop-instruction-preserved-then-offset-fragment
loop-instruction-preserved-then-offset-fragment c =
    let f = c.args.fragment.now in
    listed-more f c.args.text.now c.loop-instruction.offset c.loop-instruction.text c.loop-instruction.invariant (slice-bytes f c.type_inv.fragment) c.in-Some.instruction
    (told f c.loop-instruction.offset c.decode_at.ensures.same c.in_ok-instruction.was c.in-Some.is) c.put_instruction.new.text c.put_instruction.ensures c.put.new.self c.if-offset-fragment.true c.put.ensures

pub loop-instruction-smaller : goal.loop-instruction-smaller
loop-instruction-smaller c =
    let f = c.args.fragment.now in
    less-left f c.loop-instruction.offset c.in-Some.instruction c.type_inv.fragment (told f c.loop-instruction.offset c.decode_at.ensures.same c.in_ok-instruction.was c.in-Some.is)

pub loop-instruction-preserved : goal.loop-instruction-preserved
loop-instruction-preserved c =
    let f = c.args.fragment.now in
    listed-last f c.args.text.now c.loop-instruction.offset c.loop-instruction.text c.loop-instruction.invariant (slice-bytes f c.type_inv.fragment) c.in-Some.instruction
    (told f c.loop-instruction.offset c.decode_at.ensures.same c.in_ok-instruction.was c.in-Some.is) c.put_instruction.new.text c.put_instruction.ensures c.if-offset-fragment.false
