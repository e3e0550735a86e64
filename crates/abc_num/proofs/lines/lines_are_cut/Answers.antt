use Rattle.std.proofs.Common.{refl, ap}
use Rattle.abc_num.specs.Lines.{first_bytes}
use Rattle.abc_num.proofs.LineCuts.{lines_ended, lines_last, lines_open, dropped_cr, kept_byte}
use Rattle.abc_num.proofs.lines.lines_are_cut.Goals as goal

pub returns : goal.returns
returns c = record {
  ended = lines_ended;
  last = lines_last;
  unended = lines_open;
  none = λ ends. refl;
  cr = λ line. ap first_bytes (dropped_cr line);
  kept = λ b line h. ap first_bytes (kept_byte b line h);
}
