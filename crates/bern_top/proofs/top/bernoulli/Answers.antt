use Rattle.std.proofs.Common.{map}
use Rattle.std.specs.String.{string_bytes}
use Rattle.bern_ports.specs.Frames.{port, shelf_state}
use Rattle.bern_top.proofs.TopLemmas.{says_fault, says_text}
use Rattle.bern_top.proofs.top.bernoulli.Goals as goal

pub returns-in-Ok : goal.returns-in-Ok
returns-in-Ok g c =
    let s = g.F.Shelf in
    let k = g.S.Sink in
    let says = says_text (map string_bytes c.args.words.now) (shelf_state s c.args.shelf.now) (shelf_state s c.text_of_words.new.shelf) (port k c.args.out.now c.print.new.out) (port k c.args.err.now c.print.new.err) c.print.result c.in-Ok.text
    c.in-Ok.ensures.words c.in-Ok.ensures.told c.print.ensures in
    record {
      status = says.known;
      keeps = c.in-Ok.ensures.keeps;
      done = says.done;
      refused = says.refused;
      words = says.words_refused;
      read_fault = says.read_fault;
      write_fault = says.write_fault;
      memory = says.memory;
      due = says.due;
      refusal = says.refusal;
    }

pub returns-in-Err : goal.returns-in-Err
returns-in-Err g c =
    let s = g.F.Shelf in
    let k = g.S.Sink in
    let says = says_fault (map string_bytes c.args.words.now) (shelf_state s c.args.shelf.now) (shelf_state s c.text_of_words.new.shelf) (k.written c.args.out.now) (k.faults c.args.out.now) (port k c.args.err.now c.tell.new.err) c.tell.result c.in-Err.fault
    c.in-Err.ensures.words c.in-Err.ensures.told c.in-Err.ensures.cause c.tell.ensures in
    record {
      status = says.known;
      keeps = c.in-Err.ensures.keeps;
      done = says.done;
      refused = says.refused;
      words = says.words_refused;
      read_fault = says.read_fault;
      write_fault = says.write_fault;
      memory = says.memory;
      due = says.due;
      refusal = says.refusal;
    }
