use Rattle.std.proofs.Common.{map, option_map, refl, sym, ap, ◌∙◌}
use Rattle.std.proofs.lemmas.Result.{on_ok_weaker}
use Rattle.pg_stream.specs.Inside.{streamed}
use Rattle.pg_stream.specs.Streams.{Streaming}
use Rattle.pg_stream.proofs.stream.StreamedRows.{held-some, held-none, pushed-some, pushed-none}
use Rattle.pg_stream.proofs.stream.held_rows.HeldRows.push.Goals as goal

pub returns-in_default-clause-prints : goal.returns-in_default-clause-prints
returns-in_default-clause-prints g c =
    let s : Streaming = streamed g.S.AsStr.text g.T.TableMarker.table c.args.frame.now.hint c.args.self.now in
    held-none c.args.buf.now s tt (ap (λ held. option_map (λ row. map g.S.AsStr.text row.items) held) (sym c.replace.ensures.value ∙ c.in_default.is))

pub returns-in_default-clause-after : goal.returns-in_default-clause-after
returns-in_default-clause-after g c =
    let s : Streaming = streamed g.S.AsStr.text g.T.TableMarker.table c.args.frame.now.hint c.args.self.now in
    pushed-none s _ _ (ap (λ held. option_map (λ row. map g.S.AsStr.text row.items) held) (sym c.replace.ensures.value ∙ c.in_default.is)) refl (ap (λ held. option_map (λ row. map g.S.AsStr.text row.items) held) c.replace.ensures.after)

pub returns-clause-sound : goal.returns-clause-sound
returns-clause-sound g c = on_ok_weaker c.try_row.result (λ sound. (sound, λ none. cc)) c.try_row.ensures.sound

pub returns-clause-prints : goal.returns-clause-prints
returns-clause-prints g c =
    let s : Streaming = streamed g.S.AsStr.text g.T.TableMarker.table c.args.frame.now.hint c.args.self.now in
    held-some s (map g.S.AsStr.text c.in-Some.row.items) (ap (λ held. option_map (λ row. map g.S.AsStr.text row.items) held) (sym c.replace.ensures.value ∙ c.in-Some.is)) c.try_row.ensures.prints

pub returns-clause-after : goal.returns-clause-after
returns-clause-after g c =
    let s : Streaming = streamed g.S.AsStr.text g.T.TableMarker.table c.args.frame.now.hint c.args.self.now in
    on_ok_weaker c.try_row.result (λ is. pushed-some s _ (map g.S.AsStr.text c.in-Some.row.items) _ (ap (λ held. option_map (λ row. map g.S.AsStr.text row.items) held) (sym c.replace.ensures.value ∙ c.in-Some.is)) is (ap (λ held. option_map (λ row. map g.S.AsStr.text row.items) held) c.replace.ensures.after)) c.try_row.ensures.after
