-- What C is told of a card.
pub mod CardTelling
