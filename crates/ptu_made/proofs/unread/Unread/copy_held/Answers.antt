use Rattle.std.proofs.{Common.{◌≡◌, ◌+◌, ◌++◌, ◌≤◌, length, drop, take, arith, sym, ap, ◌∙◌, append_assoc, slice_range}, lemmas.List.{take_at, length-take}}
use Rattle.{ptu_made.{proofs.Behind.held-split, specs.Unread.words_left}, minimal_file.specs.ShortFiles.bytes_in}
use Rattle.ptu_made.proofs.unread.Unread.copy_held.Goals as goal

pub returns-clause-bytes : goal.returns-clause-bytes
returns-clause-bytes c =
    let self = c.args.self.now in
    let count = c.min-count.result in
    let part = c.copy_from_slice.new.self in
    let size : length part ≡ count = c.copy_from_slice.ensures.len ∙ length-take count c.args.into.now ∙ omega (arith, c.min-count.ensures) in
    let given = slice_range self.held self.next (self.next + count) in
    let same : part ≡ given = c.copy_from_slice.ensures.after in
    let fits : self.next + count ≤ self.end = omega (arith, self.inside.0, c.min-count.ensures) in
    let rest = slice_range self.held (self.next + count) self.end in
    let front : take count (part ++ drop count c.args.into.now) ≡ given = take_at part (drop count c.args.into.now) count size ∙ same in
    ap (λ l. l ++ bytes_in (words_left self.photons)) (held-split self.next self.end count self.held fits)
    ∙ append_assoc given rest (bytes_in (words_left self.photons)) ∙ ap (λ l. l ++ (rest ++ bytes_in (words_left self.photons))) (sym front)
