use Rattle.std.proofs.Common.{◌≡◌, ◌+◌, ◌∷◌, [], ◌++◌, length, take, drop, sym, ap, ◌∙◌, arith}
use Rattle.std.proofs.lemmas.List.{take_more_set}
use Rattle.graph_types.proofs.ListPlaces.{drop_later}
use Rattle.version_columns.specs.{Lookups.byte_count, Texts.{joined_texts, ends_from, chosen}}
use Rattle.version_columns.proofs.NameTexts.{chosen_more, byte_count-more, joined-more, ends_from-more, fewer_bytes}
use Rattle.version_columns.proofs.names.write_names.Goals as goal

pub returns-then-name-text : goal.returns-then-name-text
returns-then-name-text c =
    let names = c.args.book.now.names in
    let place = c.loop-place.place in
    let more = ap byte_count (chosen_more names c.args.first place c.name_of-name.result.now c.name_of-name.ensures) in
    let count = byte_count-more (chosen names c.args.first place) c.name_of-name.result.now in
    let fewer = fewer_bytes names c.args.first (place + 1) (length c.loop-place.ends) (omega arith) in
    (omega arith, omega (arith, more, count, fewer, c.if-name-text.true, c.loop-place.invariant.place, c.loop-place.invariant.room, c.loop-place.auto.text))

pub loop-place-preserved : goal.loop-place-preserved
loop-place-preserved c =
    let names = c.args.book.now.names in
    let first = c.args.first in
    let place = c.loop-place.place in
    let name = c.name_of-name.result.now in
    let so_far = c.loop-place.invariant in
    let more = chosen_more names first place name c.name_of-name.ensures in
    let before = chosen names first place in
    let put = c.put_text-at.ensures in
    let at : c.put_text-at.result ≡ byte_count (chosen names first (place + 1)) =
    put.end ∙ ap (λ n. n + length name) so_far.place ∙ sym (byte_count-more before name) ∙ ap byte_count (sym more) in
    let old = c.loop-place.text in
    let new = c.put_text-at.new.text in
    let later : drop (c.loop-place.at + length name) old ≡ drop (c.loop-place.at + length name) c.args.text.now =
    drop_later old c.args.text.now c.loop-place.at (length name) so_far.rest in
    let end : c.put_text-at.result ≡ 0 + byte_count before + length name = omega (arith, put.end, so_far.place) in
    record {
      place = at;
      room = omega (arith, put.end, so_far.room, c.if-name-text.false, c.put_text-at.auto.text);
      bytes = ap (λ n. take n new) put.end ∙ put.bytes ∙ ap (λ bs. bs ++ name) so_far.bytes ∙ sym (joined-more before name)
          ∙ ap joined_texts (sym more);
      rest = ap (λ n. drop n new) put.end ∙ put.rest ∙ later ∙ ap (λ n. drop n c.args.text.now) (sym put.end);
      ends_are = take_more_set c.loop-place.ends place c.put_text-at.result (omega arith)
          ∙ ap (λ es. es ++ c.put_text-at.result ∷ []) so_far.ends_are ∙ ap (λ n. ends_from 0 before ++ n ∷ []) end
          ∙ sym (ends_from-more 0 before name) ∙ ap (ends_from 0) (sym more);
    }
