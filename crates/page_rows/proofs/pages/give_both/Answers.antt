use Rattle.std.proofs.Common.{ℤ, List, Option, is_some, ap, ◌∙◌}
use Rattle.write_buffer.specs.Buffered.{frame_of}
use Rattle.page_rows.proofs.pages.give_both.Goals as goal

pub give_back-requires-2 : goal.give_back-requires-2
give_back-requires-2 c = λ p there.
    ap (λ (o : Option (List ℤ)). is_some o) (c.give_back.ensures.others (frame_of c.args.buffer.frames p) (c.requires.apart p there))
    ∙ c.requires.buffered p there
