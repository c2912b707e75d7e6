-- The lines that fit are the block, since no sheet has more lines than are asked for.
use mathlib.Core.Path.{◌≡◌, ◌∙◌, ap}
use lib.ListN.{length}
use Rattle.std.specs.Result.{result_unwrap_or}
use Rattle.sheet_lines.proofs.SheetBlocks.{block_answer_lem, block_output_lem}
use Rattle.sheet_lines.proofs.block.write_block.Goals as goal

pub returns : goal.returns
returns c = let size : length c.args.out.now ≡ 3145728 = c.write_lines-arg-1.given.0.1 in
    record {
      value = c.unwrap_or.ensures
          ∙ ap (λ b. result_unwrap_or b (record { lines = 0; bytes = 0 })) c.write_lines.ensures.value
          ∙ block_answer_lem _ _ c.args.out.now size;
      out_after = c.write_lines.ensures.out_after ∙ block_output_lem _ _ _ size;
    }
