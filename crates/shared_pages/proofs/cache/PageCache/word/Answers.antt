use Rattle.std.proofs.Common.{◌≡◌, ap, ◌∙◌, sym, ℤ, List, pos, ◌%◌, ◌/◌, slice_index_or, SFits, w64, rules}
use Rattle.std.proofs.lemmas.Int.{to_z-of_z}
use Rattle.frame_pool.specs.Pool.{frame_at as words_in}
use Rattle.cal_base.specs.Pages.{page_words}
use Rattle.shared_pages.specs.Kept.{frame_at}
use Rattle.shared_pages.specs.Cached.{Cached}
use Rattle.shared_pages.proofs.Held.{word_of_page, same_words}
use Rattle.shared_pages.proofs.cache.PageCache.word.Goals as goal

pub returns-clause-value : goal.returns-clause-value
returns-clause-value g c =
    let memory = (g.S.PageSource.pages c.args.source.now).memory in
    let pool = c.hold-i.new.pool in
    let frame : c.frame.result.now ≡ frame_at c.hold-i.new.self.kept c.hold-i.result =
    c.frame.ensures.frame ∙ ap (λ (k : Cached). frame_at k.kept c.hold-i.result) c.self.view_is
    in
    let same : c.words.result.now ≡ page_words memory (c.args.a / 64) =
    same_words _ _ (sym c.words.ensures ∙ ap (λ f. words_in pool f) frame ∙ c.hold-i.ensures.words)
    in
    let fits : SFits w64 c.word_of.result = search rules in
    to_z-of_z w64 c.word_of.result fits ∙ c.word_of.ensures ∙ ap (λ (ws : List ℤ). slice_index_or ws (c.args.a % 64) (pos 0)) same ∙ word_of_page memory c.args.a (pos 0)
