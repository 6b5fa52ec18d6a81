mod FilledPlaces
